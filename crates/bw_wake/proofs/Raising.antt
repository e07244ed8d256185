-- The events that raise the ticket that is served, from the last one back to the first.
use Rattle.std.proofs.Common.{◌≡◌, ◌≢◌, ℕ, zero, suc, ◌+◌, ◌<◌, ◌≤◌, ◌==◌, false}
use Rattle.std.proofs.Common.{List, [], ◌∷◌, replicate, refl, sym, ap, ◌∙◌, subst, ⊎_elim, arith}
use Rattle.std.proofs.Common.{eq-eqb, slice_get, slice_set, Some, None, is_some, if◌then◌else◌}
use mathlib.Core.Logic.{dite}
use native.Mathlib.Decide.{dec_le}
use Rattle.std.proofs.lemmas.Bool.{le-leb}
use Rattle.bw_wake.specs.declared.seats.Phase.{Phase}
use Rattle.bw_wake.specs.declared.seats.Phase.TheVariants.{Idle, Waiting, Marked, Looked, Asleep}
use Rattle.bw_wake.specs.declared.seats.Phase.TheVariants.{Inside, Done, Served, Owes, Found, Wakes}
use Rattle.bw_wake.specs.declared.seats.Event.{Event}
use Rattle.bw_wake.specs.declared.seats.Event.TheVariants.{Look, Apply, Leave, PeekNext, PeekWord}
use Rattle.bw_wake.specs.declared.seats.Event.TheVariants.{TakeMark, Wake}
use Rattle.bw_wake.specs.Protocol.{WaitState, or_same, one_less, tickets_woken, word_of, mark_at}
use Rattle.bw_wake.specs.Protocol.{start, run, happens, after, moved, look_by, apply_by, leave_by}
use Rattle.bw_wake.specs.Protocol.{peek_next_by, peek_word_by, take_mark_by, wake_by}
use Rattle.bw_wake.specs.Progress.{one_if, count, sleeps, wakes, busy, seat_of, is_still}
use Rattle.bw_wake.specs.Raises.{AreByAwake, CanRaise, SevenEventsRaiseServing}
use Rattle.bw_machine.proofs.CallerLemmas.{equal_or_not, get_same, get_other}
use Rattle.bw_wake.proofs.Counts.{count_at, count-le}
use Rattle.bw_wake.proofs.Invariant.{waits, may_sleep, Stands, Sound}
use Rattle.bw_wake.proofs.NotStuck.{sleeps-may_sleep}
use Rattle.bw_wake.proofs.WakeSound.{start_sound}
use Rattle.bw_wake.proofs.RunSound.{happens_sound}
use Rattle.bw_wake.proofs.PeekFirst.{peeks_first, PeekIsFirst, happens_first}

-- one event that leaves the served ticket, and then the others
step : (n : ℕ) (s t : WaitState) (e : Event) (p : Phase) → slice_get s.phases (seat_of e) ≡ Some p
    → is_still p ≡ false → after s e ≡ Some t → t.serving ≡ s.serving → CanRaise n t
    → CanRaise (n + 1) s
step n s t e p at awake is same c = let h = ap (or_same s) is in
    let few = c.1 in (
      e ∷ c.0,
      omega arith,
      (
        (p, at, awake, ap is_some is),
        subst (λ (x : WaitState). AreByAwake x c.0) (sym h) c.2,
      ),
      subst (λ (x : WaitState). (run x c.0).serving ≡ s.serving + 1) (sym h)
          (c.3 ∙ ap (λ (y : ℕ). y + 1) same),
    )

more : (m n : ℕ) (s : WaitState) → m ≤ n → CanRaise m s → CanRaise n s
more m n s le c = (c.0, (let few = c.1 in omega arith), c.2, c.3)

-- some seat is as g says
pub some_seat : (g : Phase → ℕ) (ps : List Phase) → 1 ≤ count g ps
    → (i : ℕ) × (p : Phase) × (slice_get ps i ≡ Some p) × (1 ≤ g p)
some_seat g [] h = absurd (omega arith)
some_seat g (p ∷ ps) h = dite (dec_le 1 (g p)) (λ (le : 1 ≤ g p). (zero, p, refl, le))
    (λ n. let r = some_seat g ps (omega arith) in (suc r.0, r.1, r.2, r.3))

pub one_is : (t x : ℕ) → 1 ≤ one_if (t == x) → t ≡ x
one_is t x h = ⊎_elim (λ (e : (t ≡ x) × (one_if (t == x) ≡ 1)). e.0)
    (λ (n : (t ≢ x) × (one_if (t == x) ≡ 0)). let z = n.1 in absurd (omega arith))
    (equal_or_not one_if t x)

from_done : (s : WaitState) (i : ℕ) → slice_get s.phases i ≡ Some Done → CanRaise 1 s
from_done s i at = let is = ap (leave_by s i) at in let h = ap (or_same s) is in (
  Leave i ∷ [],
  omega arith,
  ((Done, at, refl, ap is_some is), tt),
  ap (λ (x : WaitState). x.serving) h,
)

from_inside : (s : WaitState) (i : ℕ) → slice_get s.phases i ≡ Some Inside → CanRaise 2 s
from_inside s i at =
    step 1 s (moved s i Done) (Apply i) Inside at refl (ap (apply_by s i) at) refl
    (from_done (moved s i Done) i (get_same s.phases i Inside Done at))

-- a seat that waits with the served ticket looks
goes_in : (s : WaitState) (i : ℕ) (p : Phase) → slice_get s.phases i ≡ Some p
    → is_still p ≡ false → after s (Look i) ≡ Some (moved s i Inside) → CanRaise 3 s
goes_in s i p at awake is =
    step 2 s (moved s i Inside) (Look i) p at awake is refl
    (from_inside (moved s i Inside) i (get_same s.phases i p Inside at))

from_waiting : (s : WaitState) (i t : ℕ) → slice_get s.phases i ≡ Some (Waiting t)
    → t ≡ s.serving → CanRaise 3 s
from_waiting s i t at e = goes_in s i (Waiting t) at refl
    (ap (look_by s i) at
    ∙ ap (λ b. Some (if b then moved s i Inside else s)) (eq-eqb t s.serving e))

from_marked : (s : WaitState) (i t : ℕ) → slice_get s.phases i ≡ Some (Marked t)
    → t ≡ s.serving → CanRaise 3 s
from_marked s i t at e = goes_in s i (Marked t) at refl
    (ap (look_by s i) at
    ∙ ap (λ b. Some (moved s i (if b then Inside else Looked t))) (eq-eqb t s.serving e))

from_looked : (s : WaitState) (i t : ℕ) → slice_get s.phases i ≡ Some (Looked t)
    → t ≡ s.serving → CanRaise 3 s
from_looked s i t at e = goes_in s i (Looked t) at refl
    (ap (look_by s i) at
    ∙ ap (λ b. Some (if b then moved s i Inside else s)) (eq-eqb t s.serving e))

-- a seat that is awake is none that sleeps
apart : (s : WaitState) (i j t : ℕ) (p : Phase) → slice_get s.phases i ≡ Some p
    → is_still p ≡ false → slice_get s.phases j ≡ Some (Asleep t) → j ≢ i
apart s i j t p at awake asleep h =
    let e : Some p ≡ Some (Asleep t) = sym at ∙ (ap (slice_get s.phases) (sym h) ∙ asleep) in
    let q : p ≡ Asleep t = cc e in absurd (cc (sym awake ∙ ap is_still q))

-- a seat wakes the one that sleeps with the served ticket
from_wakes : (s : WaitState) (i j k n t : ℕ) → slice_get s.phases i ≡ Some (Wakes k n)
    → slice_get s.phases j ≡ Some (Asleep t) → k ≡ s.serving → t ≡ s.serving → CanRaise 4 s
from_wakes s i j k n t at asleep k_is t_is =
    let mid : List Phase = slice_set s.phases i (one_less k n) in
    let ne = apart s i j t (Wakes k n) at refl asleep in
    let at_mid : slice_get mid j ≡ Some (Asleep t) = get_other s.phases i j (one_less k n) ne
    ∙ asleep in
    let next : WaitState = record s { phases = slice_set mid j (Waiting t) } in
    let same : word_of s t ≡ word_of s k = ap (word_of s) (t_is ∙ sym k_is) in
    let is : after s (Wake i j) ≡ Some next =
    ap (λ o. wake_by s i o j (slice_get s.phases j)) at
    ∙ (ap (wake_by s i (Some (Wakes k n)) j) asleep
    ∙ ap (λ b. if b then Some next else None) (eq-eqb (word_of s t) (word_of s k) same)) in
    step 3 s next (Wake i j) (Wakes k n) at refl is refl
    (from_waiting next j t (get_same mid j (Asleep t) (Waiting t) at_mid) t_is)

-- a seat that has seen the mark takes it
from_found : (s : WaitState) (i j k n t : ℕ) → slice_get s.phases i ≡ Some (Found k n)
    → slice_get s.phases j ≡ Some (Asleep t) → k ≡ s.serving → t ≡ s.serving → CanRaise 5 s
from_found s i j k n t at asleep k_is t_is =
    let ne = apart s i j t (Found k n) at refl asleep in
    let next : WaitState = record s {
      words = if mark_at s k == k + 1 then slice_set s.words (word_of s k) 0 else s.words;
      phases = slice_set s.phases i (Wakes k n);
    } in
    step 4 s next (TakeMark i) (Found k n) at refl (ap (take_mark_by s i) at) refl
    (from_wakes next i j k n t (get_same s.phases i (Found k n) (Wakes k n) at)
    (get_other s.phases i j (Wakes k n) ne ∙ asleep) k_is t_is)

-- a seat that owes the wake sees the mark
from_owes : (s : WaitState) (i j k n t : ℕ) → slice_get s.phases i ≡ Some (Owes k n)
    → slice_get s.phases j ≡ Some (Asleep t) → k ≡ s.serving → t ≡ s.serving
    → Stands s s.serving → CanRaise 6 s
from_owes s i j k n t at asleep k_is t_is stands =
    let ne = apart s i j t (Owes k n) at refl asleep in
    let mark : mark_at s k ≡ k + 1 = subst (Stands s) (sym k_is) stands in
    step 5 s (moved s i (Found k n)) (PeekWord i) (Owes k n) at refl
    (ap (peek_word_by s i) at
    ∙ ap (λ b. Some (moved s i (if b then Found k n else one_less k n)))
    (eq-eqb (mark_at s k) (k + 1) mark)) refl
    (from_found (moved s i (Found k n)) i j k n t
    (get_same s.phases i (Owes k n) (Found k n) at)
    (get_other s.phases i j (Found k n) ne ∙ asleep) k_is t_is)

-- a seat that has left with the ticket before sees that the served one is drawn
from_served : (s : WaitState) (i j k t : ℕ) → slice_get s.phases i ≡ Some (Served k)
    → slice_get s.phases j ≡ Some (Asleep t) → k + 1 ≡ s.serving → t ≡ s.serving
    → s.serving < s.next → Stands s s.serving → CanRaise 7 s
from_served s i j k t at asleep k_is t_is lt stands =
    let ne = apart s i j t (Served k) at refl asleep in
    let owes : Phase = Owes (k + 1) tickets_woken in
    step 6 s (moved s i owes) (PeekNext i) (Served k) at refl
    (ap (peek_next_by s i) at
    ∙ ap (λ b. Some (moved s i (if b then owes else Idle)))
    (le-leb (suc (k + 1)) s.next (omega arith))) refl
    (from_owes (moved s i owes) i j (k + 1) tickets_woken t
    (get_same s.phases i (Served k) owes at)
    (get_other s.phases i j owes ne ∙ asleep) k_is t_is stands)

-- some seat has the mark of the served ticket to look for first of all
from_first : (s : WaitState) (i j t : ℕ) (p : Phase) → slice_get s.phases i ≡ Some p
    → 1 ≤ peeks_first s.serving p → slice_get s.phases j ≡ Some (Asleep t) → t ≡ s.serving
    → s.serving < s.next → Stands s s.serving → CanRaise 7 s
from_first s i j t Idle at h asleep t_is lt stands = absurd (omega arith)
from_first s i j t (Waiting u) at h asleep t_is lt stands = absurd (omega arith)
from_first s i j t (Marked u) at h asleep t_is lt stands = absurd (omega arith)
from_first s i j t (Looked u) at h asleep t_is lt stands = absurd (omega arith)
from_first s i j t (Asleep u) at h asleep t_is lt stands = absurd (omega arith)
from_first s i j t Inside at h asleep t_is lt stands = absurd (omega arith)
from_first s i j t Done at h asleep t_is lt stands = absurd (omega arith)
from_first s i j t (Served k) at h asleep t_is lt stands =
    from_served s i j k t at asleep (one_is (k + 1) s.serving h) t_is lt stands
from_first s i j t (Owes k n) at h asleep t_is lt stands = more 6 7 s (omega arith)
    (from_owes s i j k n t at asleep (one_is k s.serving h) t_is stands)
from_first s i j t (Found k n) at h asleep t_is lt stands = more 5 7 s (omega arith)
    (from_found s i j k n t at asleep (one_is k s.serving h) t_is)
from_first s i j t (Wakes k n) at h asleep t_is lt stands = absurd (omega arith)

-- some seat wakes the one of the served ticket next
from_waker : (s : WaitState) (i j t : ℕ) (p : Phase) → slice_get s.phases i ≡ Some p
    → 1 ≤ wakes s.serving p → slice_get s.phases j ≡ Some (Asleep t) → t ≡ s.serving
    → CanRaise 7 s
from_waker s i j t Idle at h asleep t_is = absurd (omega arith)
from_waker s i j t (Waiting u) at h asleep t_is = absurd (omega arith)
from_waker s i j t (Marked u) at h asleep t_is = absurd (omega arith)
from_waker s i j t (Looked u) at h asleep t_is = absurd (omega arith)
from_waker s i j t (Asleep u) at h asleep t_is = absurd (omega arith)
from_waker s i j t Inside at h asleep t_is = absurd (omega arith)
from_waker s i j t Done at h asleep t_is = absurd (omega arith)
from_waker s i j t (Served k) at h asleep t_is = absurd (omega arith)
from_waker s i j t (Owes k n) at h asleep t_is = absurd (omega arith)
from_waker s i j t (Found k n) at h asleep t_is = absurd (omega arith)
from_waker s i j t (Wakes k n) at h asleep t_is = more 4 7 s (omega arith)
    (from_wakes s i j k n t at asleep (one_is k s.serving h) t_is)

-- the seat of the served ticket sleeps
from_asleep : (s : WaitState) (j t : ℕ) → Sound s → PeekIsFirst s → s.serving < s.next
    → slice_get s.phases j ≡ Some (Asleep t) → t ≡ s.serving → CanRaise 7 s
from_asleep s j t r f lt asleep t_is =
    let here : 1 ≤ count (sleeps s.serving) s.phases =
    (let a = count_at (sleeps s.serving) s.phases j (Asleep t) asleep in
    let b = ap one_if (eq-eqb t s.serving t_is) in omega arith) in
    let may : 1 ≤ count (may_sleep s.serving) s.phases =
    (let a = count-le (sleeps s.serving) (may_sleep s.serving) s.phases
    (sleeps-may_sleep s.serving) in omega arith) in
    ⊎_elim
    (λ (st : Stands s s.serving).
    let w = some_seat (peeks_first s.serving) s.phases (f may st) in
    from_first s w.0 j t w.1 w.2 w.3 asleep t_is lt st)
    (λ (k : 1 ≤ count (wakes s.serving) s.phases).
    let w = some_seat (wakes s.serving) s.phases k in
    from_waker s w.0 j t w.1 w.2 w.3 asleep t_is)
    (r.mark_or_wake s.serving here)

-- the seat of the served ticket waits, in one way or another
from_waits : (s : WaitState) (i : ℕ) (p : Phase) → Sound s → PeekIsFirst s → s.serving < s.next
    → slice_get s.phases i ≡ Some p → 1 ≤ waits s.serving p → CanRaise 7 s
from_waits s i Idle r f lt at h = absurd (omega arith)
from_waits s i (Waiting t) r f lt at h = more 3 7 s (omega arith)
    (from_waiting s i t at (one_is t s.serving h))
from_waits s i (Marked t) r f lt at h = more 3 7 s (omega arith)
    (from_marked s i t at (one_is t s.serving h))
from_waits s i (Looked t) r f lt at h = more 3 7 s (omega arith)
    (from_looked s i t at (one_is t s.serving h))
from_waits s i (Asleep t) r f lt at h = from_asleep s i t r f lt at (one_is t s.serving h)
from_waits s i Inside r f lt at h = absurd (omega arith)
from_waits s i Done r f lt at h = absurd (omega arith)
from_waits s i (Served k) r f lt at h = absurd (omega arith)
from_waits s i (Owes k n) r f lt at h = absurd (omega arith)
from_waits s i (Found k n) r f lt at h = absurd (omega arith)
from_waits s i (Wakes k n) r f lt at h = absurd (omega arith)

-- or is inside or done
from_busy : (s : WaitState) (i : ℕ) (p : Phase) → slice_get s.phases i ≡ Some p → 1 ≤ busy p
    → CanRaise 7 s
from_busy s i Idle at h = absurd (omega arith)
from_busy s i (Waiting t) at h = absurd (omega arith)
from_busy s i (Marked t) at h = absurd (omega arith)
from_busy s i (Looked t) at h = absurd (omega arith)
from_busy s i (Asleep t) at h = absurd (omega arith)
from_busy s i Inside at h = more 2 7 s (omega arith) (from_inside s i at)
from_busy s i Done at h = more 1 7 s (omega arith) (from_done s i at)
from_busy s i (Served k) at h = absurd (omega arith)
from_busy s i (Owes k n) at h = absurd (omega arith)
from_busy s i (Found k n) at h = absurd (omega arith)
from_busy s i (Wakes k n) at h = absurd (omega arith)

pub can_raise : (s : WaitState) → Sound s → PeekIsFirst s → s.serving < s.next → CanRaise 7 s
can_raise s r f lt = let one = r.turn lt in
    dite (dec_le 1 (count busy s.phases))
    (λ (h : 1 ≤ count busy s.phases). let w = some_seat busy s.phases h in
    from_busy s w.0 w.1 w.2 w.3)
    (λ n. let w = some_seat (waits s.serving) s.phases (omega arith) in
    from_waits s w.0 w.1 r f lt w.2 w.3)

run_raises : (s : WaitState) (events : List Event) → Sound s → PeekIsFirst s
    → Sound (run s events) × PeekIsFirst (run s events)
run_raises s [] r f = (r, f)
run_raises s (e ∷ es) r f =
    run_raises (happens s e) es (happens_sound s e r) (happens_first s e r f)

-- at the start no seat has looked
pub none_looked : (x n : ℕ) → count (may_sleep x) (replicate n Idle) ≡ 0
none_looked x zero = refl
none_looked x (suc n) = let h = none_looked x n in omega arith

pub seven_events_raise_serving : SevenEventsRaiseServing
seven_events_raise_serving seats words events le lt =
    let f : PeekIsFirst (start seats words) =
    λ some st. absurd (let z = none_looked 0 seats in omega arith) in
    let k = run_raises (start seats words) events (start_sound seats words le) f in
    can_raise (run (start seats words) events) k.0 k.1 lt
