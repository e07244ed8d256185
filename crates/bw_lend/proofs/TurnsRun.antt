-- Each turn of a seat that waits while it is lent is one event of the crowd.
use Rattle.std.proofs.Common.{◌≡◌, ◌≢◌, ℕ, ◌+◌, ◌*◌, ◌^◌, ◌%◌, ◌==◌, ◌≤◌}
use Rattle.std.proofs.Common.{Bool, true, false, Option, Some, None}
use Rattle.std.proofs.Common.{if◌then◌else◌, is_some, refl, sym, ap, ◌∙◌, subst, arith}
use Rattle.std.proofs.Common.{⊎_elim, eq-eqb, ne_eqb, []}
use mathlib.Core.Logic.{dite}
use native.Mathlib.Decide.{ℕ_discrete}
use Rattle.bw_lend.specs.Crowd.{Reading, Looking, Retracting, Parking, ParkingHeld, Asleep}
use Rattle.bw_lend.specs.Crowd.{Fetching, Entering, Stage, Wakes}
use Rattle.bw_lend.specs.Crowd.{Phase, Has, Place, Away, Posted, Claimed, Done, Back}
use Rattle.bw_lend.specs.Crowd.{Crowd, Event, Look, Read, Retract, Park, Fetch, happens, or_same}
use Rattle.bw_lend.specs.Crowd.{after, look_by, read_by, retract_by, park_by, fetch_by}
use Rattle.bw_lend.specs.Crowd.{put, moved, placed, retracted, fetched, is_posted, is_held, seen}
use Rattle.bw_lend.specs.CrowdLaws.{seat_of}
use Rattle.bw_lend.specs.Waits.{MayTakeBack, MaySleep, IsOwn, IsPassedOver, after_look, after_read}
use Rattle.bw_lend.specs.Waits.{stage_of}
use Rattle.bw_lend.specs.Turns.{Hall, Reads, Looks, TakesBack, Sleeps, Shows}
use Rattle.bw_lend.specs.Turns.{turned, sees, taken, goes_to, IsTurn, IsEvent}
use Rattle.bw_lend.proofs.CrowdInvariant.{OkPlace, Ok, Sound}
use Rattle.bw_lend.proofs.CrowdKept.{put_here, put_else}
use Rattle.bw_lend.proofs.CrowdWalks.{by_test}
use Rattle.bw_lend.proofs.CrowdRuns.{happens_sound}
use Rattle.bw_lend.proofs.CrowdEffects.{beside}
use Rattle.bw_lend.proofs.Turned.{Seen, has_read, Meets, Goes, read_posted, read_back}
use Rattle.bw_lend.proofs.Turned.{read_held, look_own, look_other, unread, was_unread, is_back}
use Rattle.bw_lend.proofs.Turned.{other_word, own_unread}

-- a turn that is any event of a seat that does not wait lent
module _ (h k : Hall) (m : Meets h) (e : Event) (turn : IsEvent e h k) where
  seen_else : (j : ℕ) → j ≢ seat_of e
      → Seen (k.word j) (h.state j) (h.found j) ((happens h.crowd e).phase j)
  seen_else j ne =
      let b = beside h.crowd e j m.sound in
      let before = m.seen_is j in
      let moves : Seen (k.word j) (h.state j) (h.found j) (h.crowd.phase j) =
      ⊎_elim (λ (same : (happens h.crowd e).place j ≡ h.crowd.place j).
      subst (λ w. Seen w (h.state j) (h.found j) (h.crowd.phase j))
      (sym (turn.4 j (ap (λ (c : Crowd). c.place j) turn.2 ∙ same))) before)
      (λ other. other_word h.crowd j (h.word j) (k.word j) (h.state j) (h.found j)
      (h.crowd.phase j) (h.crowd.place j) (m.sound.each j)
      (⊎_elim (λ (x : (u : ℕ) × (v : ℕ) × (h.crowd.place j ≡ Posted u)
      × ((happens h.crowd e).place j ≡ Claimed v (seat_of e))). ap is_back x.2)
      (λ (x : (u : ℕ) × (v : ℕ) × (h.crowd.place j ≡ Claimed u v)). ap is_back x.2) other) before)
      (b.1 ne) in
      ⊎_elim (λ (same : (happens h.crowd e).phase j ≡ h.crowd.phase j).
      subst (Seen (k.word j) (h.state j) (h.found j)) (sym same) moves)
      (λ (x : (t : ℕ) × (h.crowd.phase j ≡ Has t Asleep)
      × ((happens h.crowd e).phase j ≡ Has t Reading)).
      subst (Seen (k.word j) (h.state j) (h.found j)) (sym x.2)
      (subst (Seen (h.word j) (h.state j) (h.found j)) x.1 before))
      (b.0 ne)

  seen_own : (j : ℕ) → j ≡ seat_of e
      → Seen (k.word j) (h.state j) (h.found j) ((happens h.crowd e).phase j)
  seen_own j is = let a = seat_of e in
      unread (k.word j) (h.state j) (h.found j) ((happens h.crowd e).phase j)
      (ap (λ x. has_read ((happens h.crowd e).phase x)) is ∙ own_unread h.crowd e turn.0)
      (ap h.state is
      ∙ (was_unread (h.word a) (h.state a) (h.found a) (h.crowd.phase a) turn.0 (m.seen_is a)).0)

  seen_now : (j : ℕ) → Seen (k.word j) (k.state j) (k.found j) (k.crowd.phase j)
  seen_now j =
      subst (λ (f : ℕ → Option ℕ). Seen (k.word j) (f j) (k.found j) (k.crowd.phase j))
      (sym turn.5)
      (subst (λ (f : ℕ → Option ℕ). Seen (k.word j) (h.state j) (f j) (k.crowd.phase j))
      (sym turn.6)
      (subst (λ (c : Crowd). Seen (k.word j) (h.state j) (h.found j) (c.phase j)) (sym turn.2)
      (dite (ℕ_discrete j (seat_of e)) (seen_own j) (seen_else j))))

  pub makes : Goes h k (seat_of e)
  makes = (
    e,
    refl,
    turn.1,
    turn.2,
    record {
      sound = subst Sound (sym turn.2) (happens_sound h.crowd e m.sound);
      shows = turn.3;
      seen_is = seen_now;
      hints = turn.7;
    },
  )

module _ (h : Hall) (m : Meets h) (i : ℕ) where
  -- what was read and found by the seat that makes the turn, and by others
  seen_put : (word : ℕ → ℕ) (q : Phase) (state found : Option ℕ)
      → ((j : ℕ) → j ≢ i → word j ≡ h.word j) → Seen (word i) state found q → (j : ℕ)
      → Seen (word j) (put h.state i state j) (put h.found i found j) (put h.crowd.phase i q j)
  seen_put word q state found same now j = dite (ℕ_discrete j i)
      (λ (is : j ≡ i). subst (λ x. Seen (word x) (put h.state i state x) (put h.found i found x)
      (put h.crowd.phase i q x)) (sym is)
      (subst (λ x. Seen (word i) x (put h.found i found i) (put h.crowd.phase i q i))
      (sym (put_here h.state i state))
      (subst (λ x. Seen (word i) state x (put h.crowd.phase i q i))
      (sym (put_here h.found i found))
      (subst (Seen (word i) state found) (sym (put_here h.crowd.phase i q)) now))))
      (λ ne. subst (λ x. Seen x (put h.state i state j) (put h.found i found j)
      (put h.crowd.phase i q j)) (sym (same j ne))
      (subst (λ x. Seen (h.word j) x (put h.found i found j) (put h.crowd.phase i q j))
      (sym (put_else h.state i j state ne))
      (subst (λ x. Seen (h.word j) (h.state j) x (put h.crowd.phase i q j))
      (sym (put_else h.found i j found ne))
      (subst (Seen (h.word j) (h.state j) (h.found j)) (sym (put_else h.crowd.phase i j q ne))
      (m.seen_is j)))))

  -- a turn by which the seat moves alone
  walks : (e : Event) (q : Phase) (state found : Option ℕ) → seat_of e ≡ i
      → after h.crowd e ≡ Some (moved h.crowd i q) → Seen (h.word i) state found q
      → Goes h (turned h i (moved h.crowd i q) state found) i
  walks e q state found by is now =
      let same : happens h.crowd e ≡ moved h.crowd i q = ap (or_same h.crowd) is in (
        e,
        by,
        ap is_some is,
        sym same,
        record {
          sound = subst Sound same (happens_sound h.crowd e m.sound);
          shows = m.shows;
          seen_is = seen_put h.word q state found (λ j ne. refl) now;
          hints = m.hints;
        },
      )

  -- a turn by which it takes its place
  takes : (e : Event) (q : Phase) → seat_of e ≡ i
      → after h.crowd e ≡ Some (placed h.crowd i q i Away) → has_read q ≡ false
      → Goes h (record h {
        crowd = placed h.crowd i q i Away;
        word = put h.word i 1;
        state = put h.state i None;
        found = put h.found i None;
      }) i
  takes e q by is n =
      let same : happens h.crowd e ≡ placed h.crowd i q i Away = ap (or_same h.crowd) is in (
        e,
        by,
        ap is_some is,
        sym same,
        record {
          sound = subst Sound same (happens_sound h.crowd e m.sound);
          shows = λ j. dite (ℕ_discrete j i)
              (λ (at : j ≡ i). subst (λ x. Shows (put h.word i 1 x) (put h.crowd.place i Away x))
              (sym at) (subst (λ x. Shows x (put h.crowd.place i Away i)) (sym (put_here h.word i 1))
              (subst (Shows 1) (sym (put_here h.crowd.place i Away))
              (let one : 1 % 8 ≤ 1 = omega arith in one))))
              (λ ne. subst (λ x. Shows x (put h.crowd.place i Away j))
              (sym (put_else h.word i j 1 ne))
              (subst (Shows (h.word j)) (sym (put_else h.crowd.place i j Away ne)) (m.shows j)));
          seen_is = seen_put (put h.word i 1) q None None (λ j ne. put_else h.word i j 1 ne)
              (unread (put h.word i 1 i) None None q n refl);
          hints = m.hints;
        },
      )

  ok_at : (t : ℕ) (w : Stage) → h.crowd.phase i ≡ Has t w
      → OkPlace h.crowd i t w (h.crowd.place i)
  ok_at t w at = (subst (λ p. Ok h.crowd i p (h.crowd.place i)) at (m.sound.each i)).3

  seen_at : (t : ℕ) (w : Stage) → h.crowd.phase i ≡ Has t w
      → Seen (h.word i) (h.state i) (h.found i) (Has t w)
  seen_at t w at = subst (Seen (h.word i) (h.state i) (h.found i)) at (m.seen_is i)

  -- the stage after a read
  read_is : (t w : ℕ) (q : Place) → OkPlace h.crowd i t Reading q → Shows w q
      → (seen q ≡ stage_of (Some w) None t) × Seen w (Some w) None (Has t (stage_of (Some w) None t))
  read_is t w Away ok shows = absurd ok
  read_is t w (Posted u) ok shows =
      let same : u ≡ t = ok.0 in
      let st : stage_of (Some w) None t ≡ Looking = read_posted (w % 8) None t (omega arith) in (
        sym st,
        subst (λ x. Seen w (Some w) None (Has t x)) (sym st)
            (let e : w ≡ t * 8 + 3 = omega arith in (ap Some e, refl)),
      )
  read_is t w (Claimed u v) ok shows =
      let same : u ≡ t = ok.0 in
      let st : stage_of (Some w) None t ≡ ParkingHeld = read_held (w % 8) None t (omega arith) in (
        sym st,
        subst (λ x. Seen w (Some w) None (Has t x)) (sym st)
            (let e : w ≡ t * 8 + 2 = omega arith in ap Some e),
      )
  read_is t w (Done u v) ok shows =
      let big : 4 ≤ w % 8 = omega arith in
      let st : stage_of (Some w) None t ≡ Fetching = read_back (w % 8) None t big in
      (sym st, subst (λ x. Seen w (Some w) None (Has t x)) (sym st) (refl, big))
  read_is t w (Back u v) ok shows =
      let big : 4 ≤ w % 8 = omega arith in
      let st : stage_of (Some w) None t ≡ Fetching = read_back (w % 8) None t big in
      (sym st, subst (λ x. Seen w (Some w) None (Has t x)) (sym st) (refl, big))

  pub reads : (k : Hall) → IsTurn (Reads i) h k → Goes h k i
  reads k turn =
      let t = turn.0 in
      let at : h.crowd.phase i ≡ Has t Reading =
      turn.1 ∙ ap (λ (x : Option ℕ). Has t (stage_of x (h.found i) t)) turn.2 in
      let w = h.word i in
      let is = read_is t w (h.crowd.place i) (ok_at t Reading at) (m.shows i) in
      subst (λ x. Goes h x i) (sym turn.3)
      (walks (Read i) (Has t (stage_of (Some w) None t)) (Some w) None refl
      (ap (read_by h.crowd i) at ∙ ap (λ (x : Stage). Some (moved h.crowd i (Has t x))) is.0) is.1)

  pub looks : (k : Hall) → IsTurn (Looks i) h k → Goes h k i
  looks k turn =
      let t = turn.0 in let n = turn.1 in
      let v = h.crowd.serving in
      let at : h.crowd.phase i ≡ Has t Looking =
      turn.2 ∙ ap (λ (x : Option ℕ). Has t (stage_of x (h.found i) t)) turn.3
      ∙ ap (Has t) (read_posted (n % 8) (h.found i) t turn.4 ∙ ap (λ (x : Option ℕ). after_look x t) turn.5) in
      let same : Some n ≡ Some (t * 8 + 3) = sym turn.3 ∙ (seen_at t Looking at).0 in
      let st : stage_of (Some n) (Some v) t ≡ after_look (Some v) t =
      read_posted (n % 8) (Some v) t turn.4 in
      subst (λ x. Goes h x i) (sym turn.6)
      (walks (Look i) (Has t (stage_of (Some n) (Some v) t)) (Some n) (Some v) refl
      (ap (look_by h.crowd i) at
      ∙ ap (λ (x : Stage). Some (moved h.crowd i (Has t x))) (sym st))
      (subst (λ x. Seen (h.word i) (Some n) (Some v) (Has t x)) (sym st)
      (by_test (λ x. Seen (h.word i) (Some n) (Some v) (Has t x)) (t == v) Retracting Parking
      (λ is. same) (λ is. same))))

  -- the word is what a sleep expects if and only if nobody has claimed the seat
  posted_if : (t n w : ℕ) (q : Place) → Shows w q → OkPlace h.crowd i t Parking q
      → n ≡ t * 8 + 3 → w % 2 ^ 32 ≡ n % 2 ^ 32 → is_posted q ≡ true
  posted_if t n w Away shows ok is same = absurd ok
  posted_if t n w (Posted u) shows ok is same = refl
  posted_if t n w (Claimed u v) shows ok is same = absurd (omega arith)
  posted_if t n w (Done u v) shows ok is same = absurd (omega arith)
  posted_if t n w (Back u v) shows ok is same = absurd (omega arith)

  not_posted_if : (t n w : ℕ) (q : Place) → Shows w q → OkPlace h.crowd i t Parking q
      → n ≡ t * 8 + 3 → (w % 2 ^ 32 ≢ n % 2 ^ 32) → is_posted q ≡ false
  not_posted_if t n w Away shows ok is ne = absurd ok
  not_posted_if t n w (Posted u) shows ok is ne =
      let same : u ≡ t = ok.0 in let e : w ≡ n = omega arith in
      absurd (ne (ap (λ (x : ℕ). x % 2 ^ 32) e))
  not_posted_if t n w (Claimed u v) shows ok is ne = refl
  not_posted_if t n w (Done u v) shows ok is ne = refl
  not_posted_if t n w (Back u v) shows ok is ne = refl

  -- the same where who has claimed the seat has it
  held_if : (t n w : ℕ) (q : Place) → Shows w q → OkPlace h.crowd i t ParkingHeld q
      → n ≡ t * 8 + 2 → w % 2 ^ 32 ≡ n % 2 ^ 32 → is_held q ≡ true
  held_if t n w Away shows ok is same = absurd ok
  held_if t n w (Posted u) shows ok is same = absurd ok.2
  held_if t n w (Claimed u v) shows ok is same = refl
  held_if t n w (Done u v) shows ok is same = absurd (omega arith)
  held_if t n w (Back u v) shows ok is same = absurd (omega arith)

  not_held_if : (t n w : ℕ) (q : Place) → Shows w q → OkPlace h.crowd i t ParkingHeld q
      → n ≡ t * 8 + 2 → (w % 2 ^ 32 ≢ n % 2 ^ 32) → is_held q ≡ false
  not_held_if t n w Away shows ok is ne = absurd ok
  not_held_if t n w (Posted u) shows ok is ne = refl
  not_held_if t n w (Claimed u v) shows ok is ne =
      let same : u ≡ t = ok.0 in let e : w ≡ n = omega arith in
      absurd (ne (ap (λ (x : ℕ). x % 2 ^ 32) e))
  not_held_if t n w (Done u v) shows ok is ne = refl
  not_held_if t n w (Back u v) shows ok is ne = refl

  pub sleeps : (k : Hall) → IsTurn (Sleeps i) h k → Goes h k i
  sleeps k turn =
      let t = turn.0 in let n = turn.1 in let w = h.word i in
      let stage : h.crowd.phase i ≡ Has t (after_read (n % 8) (h.found i) t) =
      turn.2 ∙ ap (λ (x : Option ℕ). Has t (stage_of x (h.found i) t)) turn.3 in
      let may : MaySleep (Some n) (h.found i) t = subst (λ (x : Option ℕ). MaySleep x (h.found i) t) turn.3 turn.4 in
      ⊎_elim (λ (held : n % 8 ≤ 2).
      let at : h.crowd.phase i ≡ Has t ParkingHeld =
      stage ∙ ap (Has t) (read_held (n % 8) (h.found i) t held) in
      let read : Some n ≡ Some (t * 8 + 2) = sym turn.3 ∙ seen_at t ParkingHeld at in
      let same : n ≡ t * 8 + 2 = cc read in
      ⊎_elim (λ (how : (w % 2 ^ 32 ≡ n % 2 ^ 32)
      × (k ≡ turned h i (moved h.crowd i (Has t Asleep)) None None)).
      subst (λ x. Goes h x i) (sym how.1)
      (walks (Park i) (Has t Asleep) None None refl
      (ap (park_by h.crowd i) at
      ∙ ap (λ (b : Bool). Some (moved h.crowd i (Has t (if b then Asleep else Reading))))
      (held_if t n w (h.crowd.place i) (m.shows i) (ok_at t ParkingHeld at) same how.0)) refl))
      (λ (how : (w % 2 ^ 32 ≢ n % 2 ^ 32) × (k ≡ sees h i t None None)).
      subst (λ x. Goes h x i) (sym how.1)
      (walks (Park i) (Has t Reading) None None refl
      (ap (park_by h.crowd i) at
      ∙ ap (λ (b : Bool). Some (moved h.crowd i (Has t (if b then Asleep else Reading))))
      (not_held_if t n w (h.crowd.place i) (m.shows i) (ok_at t ParkingHeld at) same how.0)) refl))
      turn.5)
      (λ (posted : (n % 8 ≡ 3) × IsPassedOver (h.found i) t).
      let at : h.crowd.phase i ≡ Has t Parking =
      stage ∙ ap (Has t) (read_posted (n % 8) (h.found i) t posted.0
      ∙ look_other (h.found i) t posted.1) in
      let read : Some n ≡ Some (t * 8 + 3) = sym turn.3 ∙ seen_at t Parking at in
      let same : n ≡ t * 8 + 3 = cc read in
      ⊎_elim (λ (how : (w % 2 ^ 32 ≡ n % 2 ^ 32)
      × (k ≡ turned h i (moved h.crowd i (Has t Asleep)) None None)).
      subst (λ x. Goes h x i) (sym how.1)
      (walks (Park i) (Has t Asleep) None None refl
      (ap (park_by h.crowd i) at
      ∙ ap (λ (b : Bool). Some (moved h.crowd i (Has t (if b then Asleep else Reading))))
      (posted_if t n w (h.crowd.place i) (m.shows i) (ok_at t Parking at) same how.0)) refl))
      (λ (how : (w % 2 ^ 32 ≢ n % 2 ^ 32) × (k ≡ sees h i t None None)).
      subst (λ x. Goes h x i) (sym how.1)
      (walks (Park i) (Has t Reading) None None refl
      (ap (park_by h.crowd i) at
      ∙ ap (λ (b : Bool). Some (moved h.crowd i (Has t (if b then Asleep else Reading))))
      (not_posted_if t n w (h.crowd.place i) (m.shows i) (ok_at t Parking at) same how.0)) refl))
      turn.5)
      may

  -- where the seat goes that takes itself from its place
  goes_unread : (t c : ℕ) → has_read (goes_to t c) ≡ false
  goes_unread t c = by_test (λ p. has_read p ≡ false) (c == 4) (Wakes []) (Has t Entering)
      (λ e. refl) (λ e. refl)

  goes_idle : (t c : ℕ) → c ≡ 4 → goes_to t c ≡ Wakes []
  goes_idle t c is = ap (λ (b : Bool). if b then Wakes [] else Has t Entering) (eq-eqb c 4 is)

  goes_in : (t c : ℕ) → c ≢ 4 → goes_to t c ≡ Has t Entering
  goes_in t c ne = ap (λ (b : Bool). if b then Wakes [] else Has t Entering) (ne_eqb c 4 ne)

  fetched_is : (t n w : ℕ) (q : Place) → Shows w q → OkPlace h.crowd i t Fetching q → n ≡ w
      → fetched t q ≡ goes_to t (n % 8)
  fetched_is t n w Away shows ok same = absurd ok
  fetched_is t n w (Posted u) shows ok same = absurd ok.2
  fetched_is t n w (Claimed u v) shows ok same = absurd ok.1
  fetched_is t n w (Done u v) shows ok same = sym (goes_idle t (n % 8) (omega arith))
  fetched_is t n w (Back u v) shows ok same =
      sym (goes_in t (n % 8) (λ (e : n % 8 ≡ 4). omega arith))

  retracted_is : (t n w : ℕ) (q : Place) → Shows w q → OkPlace h.crowd i t Retracting q
      → n ≡ t * 8 + 3 → w ≡ n
      → retracted h.crowd i t q ≡ placed h.crowd i (goes_to t (n % 8)) i Away
  retracted_is t n w Away shows ok is same = absurd ok
  retracted_is t n w (Posted u) shows ok is same =
      ap (λ (p : Phase). placed h.crowd i p i Away)
      (sym (goes_in t (n % 8) (λ (e : n % 8 ≡ 4). omega arith)))
  retracted_is t n w (Claimed u v) shows ok is same = absurd (omega arith)
  retracted_is t n w (Done u v) shows ok is same = absurd (omega arith)
  retracted_is t n w (Back u v) shows ok is same = absurd (omega arith)

  lost_is : (t n w : ℕ) (q : Place) → Shows w q → OkPlace h.crowd i t Retracting q
      → n ≡ t * 8 + 3 → w ≢ n
      → retracted h.crowd i t q ≡ moved h.crowd i (Has t Reading)
  lost_is t n w Away shows ok is ne = absurd ok
  lost_is t n w (Posted u) shows ok is ne =
      let same : u ≡ t = ok.0 in let e : w ≡ n = omega arith in absurd (ne e)
  lost_is t n w (Claimed u v) shows ok is ne = refl
  lost_is t n w (Done u v) shows ok is ne = refl
  lost_is t n w (Back u v) shows ok is ne = refl

  pub takes_back : (k : Hall) → IsTurn (TakesBack i) h k → Goes h k i
  takes_back k turn =
      let t = turn.0 in let n = turn.1 in let w = h.word i in let q = h.crowd.place i in
      let c = n % 8 in
      let stage : h.crowd.phase i ≡ Has t (after_read (n % 8) (h.found i) t) =
      turn.2 ∙ ap (λ (x : Option ℕ). Has t (stage_of x (h.found i) t)) turn.3 in
      let may : MayTakeBack (Some n) (h.found i) t =
      subst (λ (x : Option ℕ). MayTakeBack x (h.found i) t) turn.3 turn.4 in
      ⊎_elim (λ (back : 4 ≤ n % 8).
      let at : h.crowd.phase i ≡ Has t Fetching =
      stage ∙ ap (Has t) (read_back (n % 8) (h.found i) t back) in
      let read : Some n ≡ Some w = sym turn.3 ∙ (seen_at t Fetching at).0 in
      let same : n ≡ w = cc read in
      ⊎_elim (λ (how : (w ≡ n) × (k ≡ taken h i t n)).
      subst (λ x. Goes h x i) (sym how.1)
      (takes (Fetch i) (goes_to t c) refl
      (ap (fetch_by h.crowd i) at
      ∙ ap (λ (p : Phase). Some (placed h.crowd i p i Away))
      (fetched_is t n w q (m.shows i) (ok_at t Fetching at) same))
      (goes_unread t c)))
      (λ (how : (w ≢ n) × (k ≡ sees h i t None None)). absurd (how.0 (sym same)))
      turn.5)
      (λ (own : (n % 8 ≡ 3) × IsOwn (h.found i) t).
      let at : h.crowd.phase i ≡ Has t Retracting =
      stage ∙ ap (Has t) (read_posted (n % 8) (h.found i) t own.0 ∙ look_own (h.found i) t own.1) in
      let read : Some n ≡ Some (t * 8 + 3) = sym turn.3 ∙ seen_at t Retracting at in
      let same : n ≡ t * 8 + 3 = cc read in
      ⊎_elim (λ (how : (w ≡ n) × (k ≡ taken h i t n)).
      subst (λ x. Goes h x i) (sym how.1)
      (takes (Retract i) (goes_to t c) refl
      (ap (retract_by h.crowd i) at
      ∙ ap Some (retracted_is t n w q (m.shows i) (ok_at t Retracting at) same how.0))
      (goes_unread t c)))
      (λ (how : (w ≢ n) × (k ≡ sees h i t None None)).
      subst (λ x. Goes h x i) (sym how.1)
      (walks (Retract i) (Has t Reading) None None refl
      (ap (retract_by h.crowd i) at
      ∙ ap Some (lost_is t n w q (m.shows i) (ok_at t Retracting at) same how.0)) refl))
      turn.5)
      may
