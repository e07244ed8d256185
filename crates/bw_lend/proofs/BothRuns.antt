-- Each turn on the lock's table and on that of places is one event of the crowd, or none.
use Rattle.std.proofs.Common.{◌≡◌, ◌≢◌, ℕ, zero, suc, ◌+◌, ◌^◌, ◌%◌, ◌<◌}
use Rattle.std.proofs.Common.{Bool, true, false, List, [], ◌∷◌, Some, None, length}
use Rattle.std.proofs.Common.{if◌then◌else◌, is_some, refl, sym, ap, ◌∙◌, subst, arith, inl, inr}
use Rattle.std.proofs.Common.{⊎_elim, eq-eqb, ne_eqb, nat_lt, slice_get, slice_set, slice_index}
use Rattle.std.proofs.lemmas.Bool.{lt-ltb}
use Rattle.bw_machine.proofs.CallerLemmas.{first_is}
use Rattle.bw_wake.proofs.CallerLemmas.{same_words, index_here, index_else}
use Rattle.bw_ticket.specs.declared.board.SeatView.{SeatView}
use Rattle.bw_ticket.specs.declared.board.Phase.{Phase as ViewPhase}
use Rattle.bw_ticket.specs.declared.board.Phase.TheVariants.{Idle, Waiting, Marked, Looked}
use Rattle.bw_ticket.specs.declared.board.Phase.TheVariants.{Inside as InsideIt, Done as DoneIt}
use Rattle.bw_ticket.specs.declared.board.Phase.TheVariants.{Served, Owes, Found, Wakes as WakesIt}
use Rattle.bw_ticket.specs.Rule.{waits, ticket_of, wake_word}
use Rattle.bw_ticket.specs.Plays.{entered, recorded, recorded_by, has_served, goes}
use Rattle.bw_ticket.specs.Plays.{saw_next, saw_word, one_less, MayMark}
use Rattle.bw_ticket.specs.Turns.{Hall as LockHall, Turn as LockTurn, IsTurn as IsLockTurn}
use Rattle.bw_ticket.specs.Turns.{Sitter, Doing, seated}
use Rattle.bw_ticket.specs.Turns.Turn.{Draws, Looks as LooksIn, LooksAgain, Marks, MarksAgain}
use Rattle.bw_ticket.specs.Turns.Turn.{Records, Serves, PeeksNext, PeeksWord, TakesMark, Fronts}
use Rattle.bw_ticket.specs.Turns.Turn.{Sleeps as SleepsIn, SleepsInVain, Returns as ReturnsIn}
use Rattle.bw_ticket.specs.Turns.Turn.{Rings, RingsNobody, NotesWake}
use Rattle.bw_ticket.specs.Turns.Doing.{IsUp, Sleeping, HasSlept, HasRung}
use Rattle.bw_lend.specs.Crowd.{Drawn, Entering, Inside}
use Rattle.bw_lend.specs.Crowd.{Errand, Peeking, EnteringFor, Helping, Giving, GivingLast}
use Rattle.bw_lend.specs.Crowd.{Phase, Has, Leaves, Wakes, Place, Away, Posted, Claimed, Done, Back}
use Rattle.bw_lend.specs.Crowd.{Crowd, Take, Look, Leave, LookBehind, Glance}
use Rattle.bw_lend.specs.Crowd.{look_by, leave_by, look_behind_by, glance_by, take_by}
use Rattle.bw_lend.specs.Crowd.{after, or_same, happens, put, moved}
use Rattle.bw_lend.specs.CrowdLaws.{Holds}
use Rattle.bw_lend.specs.Turns.{Hall, is_waiting}
use Rattle.bw_lend.specs.BothTables.{Both, OnLock, Glances, IsBothTurn}
use Rattle.bw_lend.specs.BothTables.{MayMake, looking, made, event_of}
use Rattle.bw_lend.proofs.CrowdInvariant.{OkPlace, Ok, Sound}
use Rattle.bw_lend.proofs.CrowdErrands.{at_errand}
use Rattle.bw_lend.proofs.CrowdKept.{put_here, put_else}
use Rattle.bw_lend.proofs.BothHeld.{IsEntering, IsInside, HasLeft, Agrees, HasWords, Joined}
use Rattle.bw_lend.proofs.BothHeld.{Turned, stays, agrees_at, meets_after}
use Rattle.bw_lend.proofs.BothHeld.{rejoined, by_one, by_none, in_call_event}

-- who enters has the ticket that is served
module _ (s : Crowd) (y : Sound s) (i t : ℕ) where
  own_served : (q : Place) → OkPlace s i t Entering q → t ≡ s.serving
  own_served Away ok = ok
  own_served (Posted u) ok = absurd ok.2
  own_served (Claimed u h) ok = absurd ok.1
  own_served (Done u h) ok = absurd ok.2
  own_served (Back u h) ok = absurd ok.2

  claimed_served : (j : ℕ) (js : List ℕ) → s.phase i ≡ Leaves t js (EnteringFor j) → (p : Phase)
      → Ok s j p (Claimed t i) → t ≡ s.serving
  claimed_served j js at (Has u w) ok =
      let holds : Holds s.serving (Leaves t js (EnteringFor j)) u j =
      subst (λ q. Holds s.serving q u j) at ok.3.2 in holds.0 ∙ holds.2
  claimed_served j js at (Leaves x ks e) ok =
      absurd (let clash : Claimed t i ≡ Away = ok.0 in let bad : ⊥ = cc clash in bad)
  claimed_served j js at (Wakes ks) ok =
      absurd (let clash : Claimed t i ≡ Away = ok in let bad : ⊥ = cc clash in bad)

  -- the events of a call, each by the thread of the call
  enters : IsEntering (s.phase i) t
      → (r : Phase) × (after s (Look i) ≡ Some (moved s i r)) × IsInside r t
      × (is_waiting (s.phase i) ≡ false) × (t ≡ s.serving)
  enters is = ⊎_elim
      (λ (at : s.phase i ≡ Has t Entering).
      let served : t ≡ s.serving =
      own_served (s.place i) (subst (λ p. Ok s i p (s.place i)) at (y.each i)).3 in (
        Has t Inside,
        ap (look_by s i) at
            ∙ ap (λ (x : Bool). Some (moved s i (Has t (if x then Inside else Entering))))
            (eq-eqb t s.serving served),
        inl refl,
        ap is_waiting at,
        served,
      ))
      (λ (x : (js : List ℕ) × (j : ℕ) × (s.phase i ≡ Leaves t js (EnteringFor j))).
      let js = x.0 in let j = x.1 in
      let served : t ≡ s.serving = claimed_served j js x.2 (s.phase j)
      (subst (λ (q : Place). Ok s j (s.phase j) q) (at_errand s i y t js (EnteringFor j) x.2).1
      (y.each j)) in (
        Leaves t js (Helping j),
        ap (look_by s i) x.2
            ∙ ap (λ (x : Bool). Some (moved s i (Leaves t js (if x then Helping j
            else EnteringFor j)))) (eq-eqb t s.serving served),
        inr (js, j, refl),
        ap is_waiting x.2,
        served,
      )) is

  pub leaves : IsInside (s.phase i) t
      → (r : Phase) × (after s (Leave i) ≡ Some (record s {
        serving = s.serving + 1;
        phase = put s.phase i r;
      })) × HasLeft r t 4 × (is_waiting (s.phase i) ≡ false)
  leaves is = ⊎_elim
      (λ (at : s.phase i ≡ Has t Inside).
      (Leaves (t + 1) [] (Peeking 4), ap (leave_by s i) at, inl ([], refl), ap is_waiting at))
      (λ (x : (js : List ℕ) × (j : ℕ) × (s.phase i ≡ Leaves t js (Helping j))). (
        Leaves t x.0 (Giving x.1 4),
        ap (leave_by s i) x.2,
        inr (x.0, x.1, refl),
        ap is_waiting x.2,
      )) is

  glances : (n : ℕ) → HasLeft (s.phase i) t (suc n)
      → (r : Phase) × (after s (Glance i) ≡ Some (moved s i r)) × HasLeft r t n
      × (is_waiting (s.phase i) ≡ false)
  glances n is = ⊎_elim
      (λ (x : (js : List ℕ) × (s.phase i ≡ Leaves (t + 1) js (Peeking (suc n)))). (
        Leaves (t + 1) x.0 (Peeking n),
        ap (glance_by s i) x.1,
        inl (x.0, refl),
        ap is_waiting x.1,
      ))
      (λ (x : (js : List ℕ) × (j : ℕ) × (s.phase i ≡ Leaves t js (Giving j (suc n)))). (
        Leaves t x.0 (Giving x.1 n),
        ap (glance_by s i) x.2,
        inr (x.0, x.1, refl),
        ap is_waiting x.2,
      )) is

  module _ (M C R : Type 0) (z : Bool) where
    both_ways : (c : Bool) (a d : Phase) (f g : ViewPhase M C R) → Agrees a f z → Agrees d g z
        → Agrees (if c then a else d) (if c then f else g) z
    both_ways true a d f g h k = h
    both_ways false a d f g h k = k

    both_errands : (c : Bool) (js : List ℕ) (a d : Errand) (f g : ViewPhase M C R)
        → Agrees (Leaves t js a) f z → Agrees (Leaves t js d) g z
        → Agrees (Leaves t js (if c then a else d)) (if c then f else g) z
    both_errands true js a d f g h k = h
    both_errands false js a d f g h k = k

    looks_behind : HasLeft (s.phase i) t 4
        → (r : Phase) × (after s (LookBehind i) ≡ Some (moved s i r))
        × Agrees r (saw_next {M = M} {C = C} {R = R} s.next (Served t)) z
        × (is_waiting (s.phase i) ≡ false)
    looks_behind is = ⊎_elim
        (λ (x : (js : List ℕ) × (s.phase i ≡ Leaves (t + 1) js (Peeking 4))). (
          if nat_lt (t + 1) s.next then Leaves (t + 1) x.0 (Peeking 3) else Wakes x.0,
          ap (look_behind_by s i) x.1,
          both_ways (nat_lt (t + 1) s.next) (Leaves (t + 1) x.0 (Peeking 3)) (Wakes x.0)
              (Owes (t + 1) 3) Idle (2, t, refl, inl (x.0, refl)) tt,
          ap is_waiting x.1,
        ))
        (λ (x : (js : List ℕ) × (j : ℕ) × (s.phase i ≡ Leaves t js (Giving j 4))). (
          Leaves t x.0 (if nat_lt (t + 1) s.next then Giving x.1 3 else GivingLast x.1),
          ap (look_behind_by s i) x.2,
          both_errands (nat_lt (t + 1) s.next) x.0 (Giving x.1 3) (GivingLast x.1)
              (Owes (t + 1) 3) Idle (2, t, refl, inr (x.0, x.1, refl)) tt,
          ap is_waiting x.2,
        )) is

length_set : (ws : List ℕ) (w v : ℕ) → length (slice_set ws w v) ≡ length ws
length_set [] w v = refl
length_set (x ∷ ws) zero v = refl
length_set (x ∷ ws) (suc w) v = ap suc (length_set ws w v)

module _ {M C R : Type 0} where
  -- the phase in the lock of a seat that looks, stores a mark, owes a wake
  entering_view : (q : Phase) (z : Bool) (f : ViewPhase M C R) → Agrees q f z
      → waits (ticket_of f) f ≡ 1 → IsEntering q (ticket_of f)
  entering_view q z Idle h e = absurd (omega arith)
  entering_view q z (Waiting t) h e = h.0
  entering_view q z (Marked t) h e = absurd h
  entering_view q z (Looked t) h e = absurd h
  entering_view q z (InsideIt t y) h e = absurd (omega arith)
  entering_view q z (DoneIt t) h e = absurd (omega arith)
  entering_view q z (Served t) h e = absurd (omega arith)
  entering_view q z (Owes t n) h e = absurd (omega arith)
  entering_view q z (Found t n) h e = absurd h
  entering_view q z (WakesIt t n) h e = absurd h

  -- one that has looked in its call stores no mark
  stores_none : (q : Phase) (f : ViewPhase M C R) → Agrees q f true → MayMark (ticket_of f) f → ⊥
  stores_none q Idle h may = may
  stores_none q (Waiting t) h may = let e : true ≡ false = h.1 in cc e
  stores_none q (Marked t) h may = h
  stores_none q (Looked t) h may = h
  stores_none q (InsideIt t y) h may = may
  stores_none q (DoneIt t) h may = may
  stores_none q (Served t) h may = may
  stores_none q (Owes t n) h may = may
  stores_none q (Found t n) h may = h
  stores_none q (WakesIt t n) h may = h

  -- and it waits no more
  waits_no_more : (q : Phase) (f : ViewPhase M C R) → Agrees q f true
      → waits (ticket_of f) f ≡ 1 → ⊥
  waits_no_more q Idle h e = absurd (omega arith)
  waits_no_more q (Waiting t) h e = let is : true ≡ false = h.1 in cc is
  waits_no_more q (Marked t) h e = h
  waits_no_more q (Looked t) h e = h
  waits_no_more q (InsideIt t y) h e = absurd (omega arith)
  waits_no_more q (DoneIt t) h e = absurd (omega arith)
  waits_no_more q (Served t) h e = absurd (omega arith)
  waits_no_more q (Owes t n) h e = absurd (omega arith)
  waits_no_more q (Found t n) h e = h
  waits_no_more q (WakesIt t n) h e = h

-- one that has made one of the loads that it owes
owed_less : (M C R : Type 0) (r : Phase) (z : Bool) (t u n : ℕ) → HasLeft r u n
    → Agrees r (one_less {M = M} {C = C} {R = R} t (suc n)) z
owed_less M C R r z t u zero h = tt
owed_less M C R r z t u (suc n) h = (n, u, refl, h)

-- the words after a draw, and after the ticket that is served is left
small : (n : ℕ) → n + 1 < 2 ^ 32 → (n + 1) % 2 ^ 64 ≡ n + 1
small n h = grind arith

drawn_words : (ws : List ℕ) (n v x : ℕ) → HasWords ws n v → x ≡ n + 1 → n < 2 ^ 22
    → HasWords (slice_set ws 0 x) (n + 1) v
drawn_words ws n v x h is few = let long = h.3 in let same = length_set ws 0 x in (
  index_here ws 0 x (omega arith) ∙ is,
  index_else ws 0 1 x (λ (e : 1 ≡ 0). absurd (omega arith)) ∙ h.1,
  λ w le. index_else ws 0 w x (λ (e : w ≡ 0). absurd (omega arith)) ∙ h.2 w le,
  omega arith,
  omega arith,
)

served_words : (ws : List ℕ) (n v x : ℕ) → HasWords ws n v → x ≡ v + 1
    → HasWords (slice_set ws 1 x) n (v + 1)
served_words ws n v x h is = let long = h.3 in let same = length_set ws 1 x in (
  index_else ws 1 0 x (λ (e : 0 ≡ 1). absurd (omega arith)) ∙ h.0,
  index_here ws 1 x (omega arith) ∙ is,
  λ w le. index_else ws 1 w x (λ (e : w ≡ 1). absurd (omega arith)) ∙ h.2 w le,
  omega arith,
  h.4,
)

module _ {M C R : Type 0} (b c : Both M C R) (m : Joined b) (i : ℕ) where
  -- the state after a turn on the lock's table
  abbrev On : LockTurn → Both M C R
  On u = record b {
    lock = c.lock;
    hall = made b.hall (event_of i u);
    looked = looking b.looked i u;
  }

  -- a load leaves the words as they are
  read_only : (w : ℕ) (xs : List (Sitter M C R)) → c.lock ≡ record {
    words = slice_set b.lock.words w (slice_index b.lock.words w);
    seats = xs;
  } → HasWords c.lock.words b.hall.crowd.next b.hall.crowd.serving
  read_only w xs is = subst (λ ws. HasWords ws b.hall.crowd.next b.hall.crowd.serving)
      (sym (ap (λ (x : LockHall M C R). x.words) is ∙ same_words b.lock.words w)) m.words

  seats_of : (ws : List ℕ) (xs : List (Sitter M C R)) → c.lock ≡ record { words = ws; seats = xs }
      → c.lock.seats ≡ xs
  seats_of ws xs is = ap (λ (x : LockHall M C R). x.seats) is

  draws : (j : ℕ) → IsLockTurn (Draws j) b.lock c.lock → MayMake b i (Draws j)
      → Turned b (On (Draws j)) (OnLock i (Draws j))
  draws j turn may =
      let p = turn.0 in let q = turn.1 in let o = turn.2 in let d = turn.3 in
      let at = turn.4 in let told = turn.5 in
      let s = b.hall.crowd in let n : ℕ = slice_index b.lock.words 0 in
      let few : n < 2 ^ 22 = told.1.3 in
      let is_next : n ≡ s.next = m.words.0 in
      let x : Crowd = record s {
        next = s.next + 1;
        owner = put s.owner s.next i;
        phase = put s.phase i (Has s.next Drawn);
      } in
      let step : after s (Take i) ≡ Some x = ap (take_by s i) may.2
      ∙ ap (λ (t : Bool). if t then Some x else None) (lt-ltb i s.seats may.3) in
      let same : happens s (Take i) ≡ x = ap (or_same s) step in
      let up : (n + 1) % 2 ^ 64 ≡ n + 1 = small n (omega arith) in
      let words : HasWords c.lock.words (s.next + 1) s.serving =
      subst (λ ws. HasWords ws (s.next + 1) s.serving)
      (sym (ap (λ (y : LockHall M C R). y.words) turn.6))
      (drawn_words b.lock.words s.next s.serving ((n + 1) % 2 ^ 64) m.words
      (up ∙ ap (λ (y : ℕ). y + 1) is_next) (omega arith)) in
      let h : Hall = record b.hall { crowd = happens s (Take i) } in
      by_one b m (On (Draws j)) (OnLock i (Draws j)) (Take i)
      (rejoined b m i j p q c.lock h b.looked at (ap (λ (y : LockHall M C R). y.seats) turn.6)
      (meets_after b m (Take i) x (ap is_waiting may.2) step refl refl)
      (subst (λ (y : Crowd). HasWords c.lock.words y.next y.serving) (sym same) words)
      (λ k there. absurd (may.1 k there))
      (λ k g ne held. stays s (Take i) k g (b.looked k) m.meets.sound ne held)
      (λ k there. absurd (let e : None ≡ Some k = sym may.0 ∙ there in let bad : ⊥ = cc e in bad)))
      refl refl (ap is_some step)

  looks : (j : ℕ) → IsLockTurn (LooksIn j) b.lock c.lock → b.call i ≡ Some j
      → Turned b (On (LooksIn j)) (OnLock i (LooksIn j))
  looks j turn is =
      let p = turn.0 in let q = turn.1 in let o = turn.2 in let d = turn.3 in
      let at = turn.4 in let told = turn.5 in
      let s = b.hall.crowd in let t : ℕ = ticket_of p.phase in
      let n : ℕ = slice_index b.lock.words 1 in
      let e = enters s m.meets.sound i t (entering_view (s.phase i) (b.looked i) p.phase
      (agrees_at b m i j p IsUp is at) told.2.0) in
      let own : n ≡ t = m.words.1 ∙ sym e.4 in
      let got = told.0 own in let y = got.0 in
      let q_is : q ≡ entered n y p = first_is q (entered n y p) d ((0, y) ∷ o) got.1 in
      let inside : IsInside (put s.phase i e.0 i) n =
      subst (λ r. IsInside r n) (sym (put_here s.phase i e.0))
      (subst (λ k. IsInside e.0 k) (sym own) e.2) in
      in_call_event b m (OnLock i (LooksIn j)) i j p q c.lock (Look i) (moved s i e.0)
      (put b.looked i true) refl is at (ap (λ (x : LockHall M C R). x.seats) turn.6)
      (read_only 1 (slice_set b.lock.seats j (seated IsUp q)) turn.6) refl e.3 e.1 refl refl
      (λ k ne. put_else b.looked i k true ne)
      (subst (λ (v : SeatView M C R). Agrees (put s.phase i e.0 i) v.phase (put b.looked i true i))
      (sym q_is) inside)

  records : (j : ℕ) → IsLockTurn (Records j) b.lock c.lock → b.call i ≡ Some j
      → Turned b (On (Records j)) (OnLock i (Records j))
  records j turn is =
      let p = turn.0 in let q = turn.1 in let o = turn.2 in let d = turn.3 in
      let at = turn.4 in let told = turn.5 in
      let s = b.hall.crowd in let t : ℕ = ticket_of p.phase in
      let z = told.0.0 in let by = told.1.1.0 in let y = by.0 in
      let q_by : q ≡ recorded_by o p = first_is q (recorded_by o p) d [] told.1.0 in
      let q_is : q ≡ recorded z p = q_by ∙ ap (λ l. recorded_by l p) told.0.1 in
      let q_phase : q.phase ≡ DoneIt t = ap (λ (v : SeatView M C R). v.phase) q_is in
      let inside : IsInside (s.phase i) t =
      subst (λ (f : ViewPhase M C R). Agrees (s.phase i) f (b.looked i)) by.1
      (agrees_at b m i j p IsUp is at) in
      by_none b m (On (Records j)) (OnLock i (Records j))
      (rejoined b m i j p q c.lock b.hall b.looked at
      (ap (λ (x : LockHall M C R). x.seats) turn.6) m.meets
      (read_only 1 (slice_set b.lock.seats j (seated IsUp q)) turn.6)
      (λ k there. m.apart k i j there is) (λ k g ne held. held)
      (λ k there. (
        (let one : Some k ≡ Some j = sym there ∙ is in cc one),
        subst (λ (f : ViewPhase M C R). Agrees (s.phase i) f (b.looked i)) (sym q_phase) inside,
      )))
      refl refl

  serves : (j : ℕ) → IsLockTurn (Serves j) b.lock c.lock → b.call i ≡ Some j
      → Turned b (On (Serves j)) (OnLock i (Serves j))
  serves j turn is =
      let p = turn.0 in let q = turn.1 in let o = turn.2 in let d = turn.3 in
      let at = turn.4 in let told = turn.5 in
      let s = b.hall.crowd in let t : ℕ = ticket_of p.phase in
      let n : ℕ = slice_index b.lock.words 1 in
      let inside : IsInside (s.phase i) t =
      subst (λ (f : ViewPhase M C R). Agrees (s.phase i) f (b.looked i)) told.3.0
      (agrees_at b m i j p IsUp is at) in
      let e = leaves s m.meets.sound i t inside in
      let q_is : q ≡ has_served p = first_is q (has_served p) d o told.2 in
      let q_phase : q.phase ≡ Served t = ap (λ (v : SeatView M C R). v.phase) q_is in
      let small_so : n + 1 < 2 ^ 32 = told.1 in
      let up : (n + 1) % 2 ^ 64 ≡ s.serving + 1 =
      small n small_so ∙ ap (λ (y : ℕ). y + 1) m.words.1 in
      let words : HasWords c.lock.words s.next (s.serving + 1) =
      subst (λ ws. HasWords ws s.next (s.serving + 1))
      (sym (ap (λ (y : LockHall M C R). y.words) turn.6))
      (served_words b.lock.words s.next s.serving ((n + 1) % 2 ^ 64) m.words up) in
      let left : HasLeft (put s.phase i e.0 i) t 4 =
      subst (λ r. HasLeft r t 4) (sym (put_here s.phase i e.0)) e.2 in
      in_call_event b m (OnLock i (Serves j)) i j p q c.lock (Leave i)
      (record s { serving = s.serving + 1; phase = put s.phase i e.0 }) b.looked refl is at
      (ap (λ (x : LockHall M C R). x.seats) turn.6) words refl e.3 e.1 refl refl (λ k ne. refl)
      (subst (λ (f : ViewPhase M C R). Agrees (put s.phase i e.0 i) f (b.looked i)) (sym q_phase)
      left)

  peeks_next : (j : ℕ) → IsLockTurn (PeeksNext j) b.lock c.lock → b.call i ≡ Some j
      → Turned b (On (PeeksNext j)) (OnLock i (PeeksNext j))
  peeks_next j turn is =
      let w = turn.0 in let st = turn.1 in
      let p = st.0 in let q = st.1 in let o = st.2 in let d = st.3 in
      let at = st.4 in let told = st.5 in
      let s = b.hall.crowd in let t : ℕ = ticket_of p.phase in
      let ws : List ℕ = b.lock.words in
      let served : p.phase ≡ Served t = told.2.0 in
      let left : HasLeft (s.phase i) t 4 =
      subst (λ (f : ViewPhase M C R). Agrees (s.phase i) f (b.looked i)) served
      (agrees_at b m i j p IsUp is at) in
      let e = looks_behind s m.meets.sound i t M C R (b.looked i) left in
      let q_is : q ≡ goes (saw_next (slice_index ws w)) p =
      first_is q (goes (saw_next (slice_index ws w)) p) d o told.1 in
      let q_phase : q.phase ≡ saw_next s.next (Served t) =
      ap (λ (v : SeatView M C R). v.phase) q_is
      ∙ ((λ k. saw_next (slice_index ws (told.0 k)) (served k))
      ∙ ap (λ x. saw_next x (Served t)) m.words.0) in
      in_call_event b m (OnLock i (PeeksNext j)) i j p q c.lock (LookBehind i) (moved s i e.0)
      b.looked refl is at (ap (λ (x : LockHall M C R). x.seats) st.6)
      (read_only w (slice_set b.lock.seats j (seated IsUp q)) st.6) refl e.3 e.1 refl refl
      (λ k ne. refl)
      (subst (λ r. Agrees r q.phase (b.looked i)) (sym (put_here s.phase i e.0))
      (subst (λ (f : ViewPhase M C R). Agrees e.0 f (b.looked i)) (sym q_phase) e.2))

  peeks_word : (j : ℕ) → IsLockTurn (PeeksWord j) b.lock c.lock → b.call i ≡ Some j
      → Turned b (On (PeeksWord j)) (OnLock i (PeeksWord j))
  peeks_word j turn is =
      let w = turn.0 in let st = turn.1 in
      let p = st.0 in let q = st.1 in let o = st.2 in let d = st.3 in
      let at = st.4 in let told = st.5 in
      let s = b.hall.crowd in let t : ℕ = ticket_of p.phase in
      let ws : List ℕ = b.lock.words in
      let by = told.2.0 in let n = by.0 in
      let owes : p.phase ≡ Owes t n = by.1 in
      let held : Agrees {M = M} {C = C} {R = R} (s.phase i) (Owes t n) (b.looked i) =
      subst (λ (f : ViewPhase M C R). Agrees (s.phase i) f (b.looked i)) owes
      (agrees_at b m i j p IsUp is at) in
      let k = held.0 in let u = held.1 in let n_is : n ≡ suc k = held.2 in
      let e = glances s m.meets.sound i u k held.3 in
      let clear : slice_index ws w ≡ 0 =
      ap (slice_index ws) told.0 ∙ m.words.2 (wake_word t) (omega arith) in
      let q_is : q ≡ goes (saw_word (slice_index ws w)) p =
      first_is q (goes (saw_word (slice_index ws w)) p) d o told.1 in
      let not_marked : 0 ≢ t + 1 = λ (x : 0 ≡ t + 1). absurd (omega arith) in
      let q_phase : q.phase ≡ one_less t (suc k) =
      ap (λ (v : SeatView M C R). v.phase) q_is
      ∙ ((λ x. saw_word (clear x) (owes x))
      ∙ (ap (λ (x : Bool). if x then Found t n else one_less t n) (ne_eqb 0 (t + 1) not_marked)
      ∙ ap (one_less t) n_is)) in
      in_call_event b m (OnLock i (PeeksWord j)) i j p q c.lock (Glance i) (moved s i e.0) b.looked
      refl is at (ap (λ (x : LockHall M C R). x.seats) st.6)
      (read_only w (slice_set b.lock.seats j (seated IsUp q)) st.6) refl e.3 e.1 refl refl
      (λ x ne. refl)
      (subst (λ r. Agrees r q.phase (b.looked i)) (sym (put_here s.phase i e.0))
      (subst (λ (f : ViewPhase M C R). Agrees e.0 f (b.looked i)) (sym q_phase)
      (owed_less M C R e.0 (b.looked i) t u k e.2)))

  fronts : (j : ℕ) → IsLockTurn (Fronts j) b.lock c.lock → MayMake b i (Fronts j)
      → Turned b (On (Fronts j)) (OnLock i (Fronts j))
  fronts j turn may =
      let a = turn.0 in let st = turn.1 in
      let p = st.0 in let q = st.1 in let at = st.4 in
      let up : a ≡ IsUp = m.up j p a at in
      by_none b m (On (Fronts j)) (OnLock i (Fronts j))
      (rejoined b m i j p q c.lock b.hall b.looked (at ∙ ap (λ x. Some (seated x p)) up)
      (ap (λ (x : LockHall M C R). x.seats) st.6
      ∙ ap (λ x. slice_set b.lock.seats j (seated x q)) up) m.meets
      (read_only 1 (slice_set b.lock.seats j (seated a q)) st.6)
      (λ k there. absurd (may.1 k there)) (λ k g ne held. held)
      (λ k there. absurd (let e : None ≡ Some k = sym may.0 ∙ there in let bad : ⊥ = cc e in bad)))
      refl refl

  -- no seat sleeps, has slept or has rung
  not_down : (j : ℕ) (p : SeatView M C R) (d : Doing) → slice_get b.lock.seats j ≡ Some (seated d p)
      → d ≢ IsUp → ⊥
  not_down j p d at ne = ne (m.up j p d at)

  -- no seat in a call is in this phase
  not_in : (j : ℕ) (p : SeatView M C R) (f : ViewPhase M C R) → b.call i ≡ Some j
      → slice_get b.lock.seats j ≡ Some (seated IsUp p) → p.phase ≡ f
      → Agrees (b.hall.crowd.phase i) f (b.looked i)
  not_in j p f is at e = subst (λ (g : ViewPhase M C R). Agrees (b.hall.crowd.phase i) g (b.looked i)) e
      (agrees_at b m i j p IsUp is at)

  -- turns of seats that wait by marks: no thread makes one
  abbrev pub is_never : LockTurn → Bool
  is_never (LooksAgain j) = true
  is_never (Marks j) = true
  is_never (MarksAgain j) = true
  is_never (TakesMark j) = true
  is_never (SleepsIn j) = true
  is_never (SleepsInVain j) = true
  is_never (ReturnsIn j) = true
  is_never (Rings j k) = true
  is_never (RingsNobody j) = true
  is_never (NotesWake j) = true
  is_never _ = false

  pub never : (u : LockTurn) → is_never u ≡ true → IsLockTurn u b.lock c.lock → MayMake b i u → ⊥
  never (LooksAgain j) is (inl turn) may =
      not_down j turn.0 HasSlept turn.4 (λ e. let bad : ⊥ = cc e in bad)
  never (LooksAgain j) is (inr turn) may =
      not_down j turn.0 HasSlept turn.4 (λ e. let bad : ⊥ = cc e in bad)
  never (Marks j) is turn may = let st = turn.2 in let p = st.0 in
      stores_none (b.hall.crowd.phase i) p.phase
      (subst (λ z. Agrees (b.hall.crowd.phase i) p.phase z) may.1 (agrees_at b m i j p IsUp may.0 st.4))
      st.5.3.0
  never (MarksAgain j) is turn may = let st = turn.2 in
      not_down j st.0 HasSlept st.4 (λ e. let bad : ⊥ = cc e in bad)
  never (TakesMark j) is turn may = let st = turn.3 in let by = st.5.4.0 in let p = st.0 in
      not_in j p (Found (ticket_of p.phase) by.0) may st.4 by.1
  never (SleepsIn j) is turn may = not_in j turn.0 (Looked turn.1) may turn.2 turn.3
  never (SleepsInVain j) is turn may = not_in j turn.0 (Looked turn.1) may turn.2 turn.3
  never (ReturnsIn j) is turn may =
      not_down j turn.0 Sleeping turn.1 (λ e. let bad : ⊥ = cc e in bad)
  never (Rings j k) is turn may = not_in j turn.0 (WakesIt turn.1 turn.2) may turn.5 turn.6
  never (RingsNobody j) is turn may = not_in j turn.0 (WakesIt turn.1 turn.2) may turn.3 turn.4
  never (NotesWake j) is turn may =
      not_down j turn.0 HasRung turn.4 (λ e. let bad : ⊥ = cc e in bad)
  never _ is turn may = absurd (cc is)

  pub on_lock : (u : LockTurn) → IsLockTurn u b.lock c.lock → MayMake b i u
      → Turned b (On u) (OnLock i u)
  on_lock (Draws j) turn may = draws j turn may
  on_lock (LooksIn j) turn may = looks j turn may
  on_lock (Records j) turn may = records j turn may
  on_lock (Serves j) turn may = serves j turn may
  on_lock (PeeksNext j) turn may = peeks_next j turn may
  on_lock (PeeksWord j) turn may = peeks_word j turn may
  on_lock (Fronts j) turn may = fronts j turn may
  on_lock (LooksAgain j) turn may = absurd (never (LooksAgain j) refl turn may)
  on_lock (Marks j) turn may = absurd (never (Marks j) refl turn may)
  on_lock (MarksAgain j) turn may = absurd (never (MarksAgain j) refl turn may)
  on_lock (TakesMark j) turn may = absurd (never (TakesMark j) refl turn may)
  on_lock (SleepsIn j) turn may = absurd (never (SleepsIn j) refl turn may)
  on_lock (SleepsInVain j) turn may = absurd (never (SleepsInVain j) refl turn may)
  on_lock (ReturnsIn j) turn may = absurd (never (ReturnsIn j) refl turn may)
  on_lock (Rings j k) turn may = absurd (never (Rings j k) refl turn may)
  on_lock (RingsNobody j) turn may = absurd (never (RingsNobody j) refl turn may)
  on_lock (NotesWake j) turn may = absurd (never (NotesWake j) refl turn may)

  -- after a look in its call a thread does not wait, so it does not glance
  pub no_glance : IsBothTurn (Glances i) b c → ⊥
  no_glance turn = let p = turn.1 in waits_no_more (b.hall.crowd.phase i) p.phase
      (subst (λ z. Agrees (b.hall.crowd.phase i) p.phase z) turn.3
      (agrees_at b m i turn.0 p IsUp turn.2 turn.4))
      turn.5
