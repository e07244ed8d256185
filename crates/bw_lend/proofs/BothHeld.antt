-- What is so between two turns on the lock's table and on that of places, and what keeps it so.
use Rattle.std.proofs.Common.{◌≡◌, ◌≢◌, ℕ, suc, ◌+◌, ◌^◌, ◌≤◌, ◌⊎◌}
use Rattle.std.proofs.Common.{Bool, true, false, List, [], ◌∷◌, Option, Some, None}
use Rattle.std.proofs.Common.{length, is_some, refl, sym, ap, ◌∙◌, subst, inl, ⊎_elim}
use Rattle.std.proofs.Common.{slice_get, slice_set, slice_index}
use mathlib.Core.Logic.{dite}
use native.Mathlib.Decide.{ℕ_discrete}
use Rattle.bw_machine.proofs.CallerLemmas.{get_same, get_other}
use Rattle.bw_ticket.specs.declared.board.SeatView.{SeatView}
use Rattle.bw_ticket.specs.declared.board.Phase.{Phase as ViewPhase}
use Rattle.bw_ticket.specs.declared.board.Phase.TheVariants.{Idle, Waiting, Marked, Looked}
use Rattle.bw_ticket.specs.declared.board.Phase.TheVariants.{Inside as InsideIt, Done as DoneIt}
use Rattle.bw_ticket.specs.declared.board.Phase.TheVariants.{Served, Owes, Found, Wakes as WakesIt}
use Rattle.bw_ticket.specs.Turns.{Hall as LockHall, Sitter, Doing, seated}
use Rattle.bw_ticket.specs.Turns.Doing.{IsUp}
use Rattle.bw_lend.specs.Crowd.{Reading, Asleep, Entering, Inside, Peeking, EnteringFor, Helping, Giving}
use Rattle.bw_lend.specs.Crowd.{Phase, Has, Leaves, Place, Hint, Crowd, Event, after, or_same}
use Rattle.bw_lend.specs.Crowd.{happens, run, is_possible}
use Rattle.bw_lend.specs.CrowdLaws.{seat_of}
use Rattle.bw_lend.specs.CrowdRounds.{MakesOne}
use Rattle.bw_lend.specs.Turns.{Hall, Shows, ShowsHint, is_waiting}
use Rattle.bw_lend.specs.BothTables.{Both, BothTurn, thread_of, is_event}
use Rattle.bw_lend.proofs.CrowdInvariant.{Sound}
use Rattle.bw_lend.proofs.CrowdEffects.{beside}
use Rattle.bw_lend.proofs.Turned.{Meets}
use Rattle.bw_lend.proofs.TurnsRun.{makes}

-- it enters the lock with the ticket t next, for itself or for another one
abbrev pub IsEntering : Phase → ℕ → Type 0
IsEntering q t = (q ≡ Has t Entering)
    ⊎ ((js : List ℕ) × (j : ℕ) × (q ≡ Leaves t js (EnteringFor j)))

-- it is inside with the ticket t
abbrev pub IsInside : Phase → ℕ → Type 0
IsInside q t = (q ≡ Has t Inside) ⊎ ((js : List ℕ) × (j : ℕ) × (q ≡ Leaves t js (Helping j)))

-- it has left with the ticket t, and makes at most n more loads of the lock's own
abbrev pub HasLeft : Phase → ℕ → ℕ → Type 0
HasLeft q t n = ((js : List ℕ) × (q ≡ Leaves (t + 1) js (Peeking n)))
    ⊎ ((js : List ℕ) × (j : ℕ) × (q ≡ Leaves t js (Giving j n)))

-- the words of the lock, where these are the next ticket and the one that is served: no mark is
-- stored
abbrev pub HasWords : List ℕ → ℕ → ℕ → Type 0
HasWords ws n v = (slice_index ws 0 ≡ n) × (slice_index ws 1 ≡ v)
    × ((w : ℕ) → 2 ≤ w → slice_index ws w ≡ 0) × (2 ≤ length ws) × (n ≤ 2 ^ 22)

module _ {M C R : Type 0} where
  -- where a thread is in the crowd that is in a call, by the phase of its seat in the lock and by
  -- whether it has looked
  abbrev pub Agrees : Phase → ViewPhase M C R → Bool → Type 0
  Agrees q Idle z = Unit {0}
  Agrees q (Waiting t) z = IsEntering q t × (z ≡ false)
  Agrees q (Marked t) z = ⊥
  Agrees q (Looked t) z = ⊥
  Agrees q (InsideIt t y) z = IsInside q t
  Agrees q (DoneIt t) z = IsInside q t
  Agrees q (Served t) z = HasLeft q t 4
  Agrees q (Owes t n) z = (m : ℕ) × (u : ℕ) × (n ≡ suc m) × HasLeft q u (suc m)
  Agrees q (Found t n) z = ⊥
  Agrees q (WakesIt t n) z = ⊥

  -- the thread i is in a call with the seat j
  abbrev pub InCall : Both M C R → ℕ → ℕ → Type 0
  InCall b i j = (p : SeatView M C R) × (slice_get b.lock.seats j ≡ Some (seated IsUp p))
      × Agrees (b.hall.crowd.phase i) p.phase (b.looked i)

  -- each seat of the lock is up
  abbrev pub AllUp : List (Sitter M C R) → Type 0
  AllUp xs = (j : ℕ) (p : SeatView M C R) (d : Doing) → slice_get xs j ≡ Some (seated d p)
      → d ≡ IsUp

pub record Joined {M C R : Type 0} (b : Both M C R) : Type 0 where
  pub meets : Meets b.hall
  pub words : HasWords b.lock.words b.hall.crowd.next b.hall.crowd.serving
  pub up : AllUp b.lock.seats
  pub calls : (i j : ℕ) → b.call i ≡ Some j → InCall b i j
  pub apart : (i k j : ℕ) → b.call i ≡ Some j → b.call k ≡ Some j → i ≡ k

module _ {M C R : Type 0} where
  -- what a turn leads to: the events of the crowd that it stands for
  abbrev pub Turned : Both M C R → Both M C R → BothTurn → Type 0
  Turned b c t = (events : List Event) × Joined c × (run b.hall.crowd events ≡ c.hall.crowd)
      × (is_event t ≡ true → MakesOne (thread_of t) b.hall.crowd events)

  -- a seat that sleeps is at no stage of a call
  pub slept_idle : (u : ℕ) (q : Phase) (f : ViewPhase M C R) (z : Bool)
      → Agrees (Has u Asleep) f z → Agrees q f z
  slept_idle u q Idle z h = tt
  slept_idle u q (Waiting t) z h = absurd (⊎_elim
      (λ (e : Has u Asleep ≡ Has t Entering). let bad : ⊥ = cc e in bad)
      (λ (x : (js : List ℕ) × (j : ℕ) × (Has u Asleep ≡ Leaves t js (EnteringFor j))).
      let e = x.2 in let bad : ⊥ = cc e in bad) h.0)
  slept_idle u q (Marked t) z h = absurd h
  slept_idle u q (Looked t) z h = absurd h
  slept_idle u q (InsideIt t y) z h = absurd (⊎_elim
      (λ (e : Has u Asleep ≡ Has t Inside). let bad : ⊥ = cc e in bad)
      (λ (x : (js : List ℕ) × (j : ℕ) × (Has u Asleep ≡ Leaves t js (Helping j))).
      let e = x.2 in let bad : ⊥ = cc e in bad) h)
  slept_idle u q (DoneIt t) z h = absurd (⊎_elim
      (λ (e : Has u Asleep ≡ Has t Inside). let bad : ⊥ = cc e in bad)
      (λ (x : (js : List ℕ) × (j : ℕ) × (Has u Asleep ≡ Leaves t js (Helping j))).
      let e = x.2 in let bad : ⊥ = cc e in bad) h)
  slept_idle u q (Served t) z h = absurd (not_left u t 4 h)
    where
      not_left : (u t n : ℕ) → HasLeft (Has u Asleep) t n → ⊥
      not_left u t n h = ⊎_elim
          (λ (x : (js : List ℕ) × (Has u Asleep ≡ Leaves (t + 1) js (Peeking n))).
          let e = x.1 in let bad : ⊥ = cc e in bad)
          (λ (x : (js : List ℕ) × (j : ℕ) × (Has u Asleep ≡ Leaves t js (Giving j n))).
          let e = x.2 in let bad : ⊥ = cc e in bad) h
  slept_idle u q (Owes t n) z h = absurd (not_left u h.1 (suc h.0) h.3)
    where
      not_left : (u t n : ℕ) → HasLeft (Has u Asleep) t n → ⊥
      not_left u t n h = ⊎_elim
          (λ (x : (js : List ℕ) × (Has u Asleep ≡ Leaves (t + 1) js (Peeking n))).
          let e = x.1 in let bad : ⊥ = cc e in bad)
          (λ (x : (js : List ℕ) × (j : ℕ) × (Has u Asleep ≡ Leaves t js (Giving j n))).
          let e = x.2 in let bad : ⊥ = cc e in bad) h
  slept_idle u q (Found t n) z h = absurd h
  slept_idle u q (WakesIt t n) z h = absurd h

  -- an event of another thread leaves one that is in a call where it was
  pub stays : (s : Crowd) (e : Event) (k : ℕ) (f : ViewPhase M C R) (z : Bool) → Sound s
      → k ≢ seat_of e → Agrees (s.phase k) f z → Agrees ((happens s e).phase k) f z
  stays s e k f z y ne h = ⊎_elim
      (λ (same : (happens s e).phase k ≡ s.phase k). subst (λ q. Agrees q f z) (sym same) h)
      (λ (x : (t : ℕ) × (s.phase k ≡ Has t Asleep) × ((happens s e).phase k ≡ Has t Reading)).
      slept_idle x.0 ((happens s e).phase k) f z (subst (λ q. Agrees q f z) x.1 h))
      ((beside s e k y).0 ne)

  abbrev view_or : SeatView M C R → Option (Sitter M C R) → SeatView M C R
  view_or p (Some x) = x.view
  view_or p None = p

  abbrev pub doing_or : Option (Sitter M C R) → Doing
  doing_or (Some x) = x.doing
  doing_or None = IsUp

  module _ (b : Both M C R) (m : Joined b) where
    -- what the seat of a call agrees with
    pub agrees_at : (i j : ℕ) (p : SeatView M C R) (d : Doing) → b.call i ≡ Some j
        → slice_get b.lock.seats j ≡ Some (seated d p)
        → Agrees (b.hall.crowd.phase i) p.phase (b.looked i)
    agrees_at i j p d is at = let c = m.calls i j is in
        subst (λ (v : SeatView M C R). Agrees (b.hall.crowd.phase i) v.phase (b.looked i))
        (ap (view_or p) (sym c.1 ∙ at)) c.2

    -- the hall after one event that changes no place and no hint
    pub meets_after : (e : Event) (x : Crowd) → is_waiting (b.hall.crowd.phase (seat_of e)) ≡ false
        → after b.hall.crowd e ≡ Some x → x.place ≡ b.hall.crowd.place
        → x.hint ≡ b.hall.crowd.hint
        → Meets (record b.hall { crowd = happens b.hall.crowd e })
    meets_after e x quiet is places hints =
        let h = b.hall in
        let same : happens h.crowd e ≡ x = ap (or_same h.crowd) is in
        let k : Hall = record h { crowd = happens h.crowd e } in
        (makes h k m.meets e (
          quiet,
          ap is_some is,
          refl,
          λ j. subst (λ (f : ℕ → Place). Shows (h.word j) (f j))
              (sym (ap (λ (c : Crowd). c.place) same ∙ places)) (m.meets.shows j),
          λ j placed. refl,
          refl,
          refl,
          λ w. subst (λ (f : ℕ → Option Hint). ShowsHint (h.hint w) (f w))
              (sym (ap (λ (c : Crowd). c.hint) same ∙ hints)) (m.meets.hints w),
        )).4

    -- the seat j, with the view p, has another one, and the thread i alone may be in a call with it
    module _ (i j : ℕ) (p q : SeatView M C R) (l : LockHall M C R) (h : Hall) (f : ℕ → Bool)
        (at : slice_get b.lock.seats j ≡ Some (seated IsUp p))
        (seats : l.seats ≡ slice_set b.lock.seats j (seated IsUp q)) where
      there : slice_get l.seats j ≡ Some (seated IsUp q)
      there = ap (λ (xs : List (Sitter M C R)). slice_get xs j) seats
          ∙ get_same b.lock.seats j (seated IsUp p) (seated IsUp q) at

      elsewhere : (k : ℕ) → k ≢ j → slice_get l.seats k ≡ slice_get b.lock.seats k
      elsewhere k ne = ap (λ (xs : List (Sitter M C R)). slice_get xs k) seats
          ∙ get_other b.lock.seats j k (seated IsUp q) ne

      all_up : AllUp l.seats
      all_up k v d is = dite (ℕ_discrete k j)
          (λ (e : k ≡ j). ap doing_or (sym is ∙ (ap (slice_get l.seats) e ∙ there)))
          (λ (ne : k ≢ j). m.up k v d (sym (elsewhere k ne) ∙ is))

      in_call : ((k : ℕ) → b.call k ≡ Some j → k ≡ i)
          → ((k : ℕ) (g : ViewPhase M C R) → k ≢ i
          → Agrees (b.hall.crowd.phase k) g (b.looked k) → Agrees (h.crowd.phase k) g (f k))
          → ((k : ℕ) → b.call i ≡ Some k → (k ≡ j) × Agrees (h.crowd.phase i) q.phase (f i))
          → (k n : ℕ) → b.call k ≡ Some n → (v : SeatView M C R)
          × (slice_get l.seats n ≡ Some (seated IsUp v)) × Agrees (h.crowd.phase k) v.phase (f k)
      in_call mine others own k n is = dite (ℕ_discrete k i)
          (λ (e : k ≡ i). let o = own n (sym (ap b.call e) ∙ is) in (
            q,
            ap (slice_get l.seats) o.0 ∙ there,
            subst (λ (y : ℕ). Agrees (h.crowd.phase y) q.phase (f y)) (sym e) o.1,
          ))
          (λ (ne : k ≢ i). let old = m.calls k n is in (
            old.0,
            elsewhere n (λ e. ne (mine k (is ∙ ap Some e))) ∙ old.1,
            others k old.0.phase ne old.2,
          ))

      pub rejoined : Meets h → HasWords l.words h.crowd.next h.crowd.serving
          → ((k : ℕ) → b.call k ≡ Some j → k ≡ i)
          → ((k : ℕ) (g : ViewPhase M C R) → k ≢ i
          → Agrees (b.hall.crowd.phase k) g (b.looked k) → Agrees (h.crowd.phase k) g (f k))
          → ((k : ℕ) → b.call i ≡ Some k → (k ≡ j) × Agrees (h.crowd.phase i) q.phase (f i))
          → Joined (record { lock = l; hall = h; call = b.call; looked = f })
      rejoined meets words mine others own = record {
        meets = meets;
        words = words;
        up = all_up;
        calls = in_call mine others own;
        apart = m.apart;
      }

    -- a turn that is one event, and one that is none
    pub by_one : (c : Both M C R) (t : BothTurn) (e : Event) → Joined c
        → c.hall.crowd ≡ happens b.hall.crowd e → seat_of e ≡ thread_of t
        → is_possible b.hall.crowd e ≡ true → Turned b c t
    by_one c t e j is by can = (e ∷ [], j, sym is, λ made. inl (by, can))

    pub by_none : (c : Both M C R) (t : BothTurn) → Joined c → c.hall.crowd ≡ b.hall.crowd
        → is_event t ≡ false → Turned b c t
    by_none c t j is quiet = ([], j, sym is, λ made. absurd (cc (sym made ∙ quiet)))

    -- a turn of a thread in a call, which is one event of the crowd
    pub in_call_event : (t : BothTurn) (i j : ℕ) (p q : SeatView M C R) (l : LockHall M C R)
        (e : Event) (x : Crowd) (f : ℕ → Bool) → thread_of t ≡ i → b.call i ≡ Some j
        → slice_get b.lock.seats j ≡ Some (seated IsUp p)
        → l.seats ≡ slice_set b.lock.seats j (seated IsUp q)
        → HasWords l.words x.next x.serving
        → seat_of e ≡ i → is_waiting (b.hall.crowd.phase i) ≡ false
        → after b.hall.crowd e ≡ Some x → x.place ≡ b.hall.crowd.place
        → x.hint ≡ b.hall.crowd.hint → ((k : ℕ) → k ≢ i → f k ≡ b.looked k)
        → Agrees (x.phase i) q.phase (f i)
        → Turned b (record b {
          lock = l;
          hall = record b.hall { crowd = happens b.hall.crowd e };
          looked = f;
        }) t
    in_call_event t i j p q l e x f by is at seats words seat quiet step places hints else agrees =
        let s = b.hall.crowd in
        let same : happens s e ≡ x = ap (or_same s) step in
        let h : Hall = record b.hall { crowd = happens s e } in
        by_one (record b { lock = l; hall = h; looked = f }) t e
        (rejoined i j p q l h f at seats
        (meets_after e x (ap (λ k. is_waiting (s.phase k)) seat ∙ quiet) step places hints)
        (subst (λ (y : Crowd). HasWords l.words y.next y.serving)
        (sym same) words)
        (λ k there. m.apart k i j there is)
        (λ k g ne held. stays s e k g (f k) m.meets.sound (λ eq. ne (eq ∙ seat))
        (subst (λ z. Agrees (s.phase k) g z) (sym (else k ne)) held))
        (λ k there. (
          (let one : Some k ≡ Some j = sym there ∙ is in cc one),
          subst (λ (y : Crowd). Agrees (y.phase i) q.phase (f i)) (sym same) agrees,
        )))
        refl (seat ∙ sym by) (ap is_some step)
