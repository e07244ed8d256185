-- No group uses more than its limits and a bound: what is taken in advance pays for all but
-- overruns.
use Rattle.std.proofs.Common.{◌≡◌, ℕ, zero, suc, ◌+◌, ◌-◌, ◌*◌, ◌<◌, ◌≤◌, List, [], ◌∷◌, ◌++◌}
use Rattle.std.proofs.Common.{length, Bool, true, false, Option, None, Some, slice_get, slice_set}
use Rattle.std.proofs.Common.{map, refl, ap, sym, subst, ◌∙◌, arith, if◌then◌else◌, nat_lt}
use Rattle.std.proofs.Common.{not, ◌||◌, get_or}
use Rattle.std.specs.List.{sum_by, AllByRecursion}
use Rattle.std.proofs.Math.Nat.{mul-le-mul_left}
use Rattle.std.proofs.lemmas.Bool.{ltb-true, ltb-false, lt-ltb, le-ltb}
use Rattle.std.proofs.lemmas.List.{length-map}
use Rattle.std.proofs.lemmas.List.Sums.{sum_by-cons}
use Rattle.dispatch.specs.declared.reservation.Account.{Account}
use Rattle.dispatch.specs.declared.reservation.Run.{Run}
use Rattle.dispatch.specs.declared.reservation.Terms.{Terms}
use Rattle.dispatch.specs.declared.reservation.Step.{Step}
use Rattle.dispatch.specs.declared.reservation.Step.TheVariants.{Pass, Wake, Pick, End, Level}
use Rattle.dispatch.specs.declared.reservation.Step.TheVariants.{Give, Leave, Cut, Stop, Refill}
use Rattle.dispatch.specs.Reservation.{Reservations, account_at, aged, after, state_ended, paid_by}
use Rattle.dispatch.specs.Reservation.{Allows, WHOLE, no_account, terms_of, quantum_of, rate_of}
use Rattle.dispatch.specs.Reservation.{passed_in, capped, capped_owed, settled_owed, cut, left}
use Rattle.dispatch.specs.Reservation.{given, woken, stopped}
use Rattle.dispatch.specs.Reservation as reserved
use Rattle.dispatch.specs.Rule as shares
use Rattle.dispatch.specs.Windows.{after_all}
use Rattle.dispatch.specs.declared.budget.Group.{Group}
use Rattle.dispatch.specs.Groups.{balanced, refilled, group_ended, group_after, KeepsLimit}
use Rattle.dispatch.specs.Groups.{IsLimitedRun, used_by, used_at, used_in, period_at, periods_in}
use Rattle.dispatch.specs.Groups.{LimitsAreKept, LimitIsTold, inside_of, inside_at}
use Rattle.dispatch.specs.Groups.{IsToldToKeep, ToldRunsAreLimited}
use Rattle.dispatch.proofs.Counts.{length_set}
use Rattle.dispatch.proofs.Totals.{sum_set}

-- ---- runs of leaves inside

one_inside : (ℕ → Bool) → Option Run → ℕ
one_inside inside None = 0
one_inside inside (Some run) = if inside run.leaf then 1 else 0

-- the number of processors that run a task of a leaf inside
abbrev inside_runs : (ℕ → Bool) → List (Option Run) → ℕ
inside_runs inside ps = sum_by (one_inside inside) ps

small : (b : Bool) → (if◌then◌else◌ {A = ℕ} b 1 0) ≤ 1
small true = omega arith
small false = omega arith

at_most_one : (inside : ℕ → Bool) (q : Option Run) → one_inside inside q ≤ 1
unfolding one_inside
at_most_one inside None = omega arith
at_most_one inside (Some run) = small (inside run.leaf)

few_runs : (inside : ℕ → Bool) (ps : List (Option Run)) → inside_runs inside ps ≤ length ps
few_runs inside [] = omega arith
few_runs inside (q ∷ ps) =
    omega (
      arith,
      at_most_one inside q,
      few_runs inside ps,
      sum_by-cons (one_inside inside) q ps,
    )

none_run : (inside : ℕ → Bool) (ps : List (Option Run)) → AllByRecursion (λ q. q ≡ None) ps
    → inside_runs inside ps ≡ 0
unfolding one_inside
none_run inside [] idle = refl
none_run inside (q ∷ ps) idle =
    omega (
      arith,
      ap (one_inside inside) idle.0,
      none_run inside ps idle.1,
      sum_by-cons (one_inside inside) q ps,
    )

aged_one : (inside : ℕ → Bool) (t : ℕ) (q : Option Run)
    → one_inside inside (aged t q) ≡ one_inside inside q
unfolding one_inside
aged_one inside t None = refl
aged_one inside t (Some run) = refl

aged_runs : (inside : ℕ → Bool) (t : ℕ) (ps : List (Option Run))
    → inside_runs inside (map (aged t) ps) ≡ inside_runs inside ps
aged_runs inside t [] = refl
aged_runs inside t (q ∷ ps) =
    omega (
      arith,
      aged_one inside t q,
      aged_runs inside t ps,
      sum_by-cons (one_inside inside) q ps,
      sum_by-cons (one_inside inside) (aged t q) (map (aged t) ps),
    )

-- one more, or one fewer, where the leaf is inside
begun_inside : (inside : ℕ → Bool) (run : Run) → inside run.leaf ≡ true
    → one_inside inside (Some run) ≡ 1
unfolding one_inside
begun_inside inside run is = ap (λ (b : Bool). if◌then◌else◌ {A = ℕ} b 1 0) is

begun_outside : (inside : ℕ → Bool) (run : Run) → inside run.leaf ≡ false
    → one_inside inside (Some run) ≡ 0
unfolding one_inside
begun_outside inside run is = ap (λ (b : Bool). if◌then◌else◌ {A = ℕ} b 1 0) is

none_inside : (inside : ℕ → Bool) → one_inside inside None ≡ 0
unfolding one_inside
none_inside inside = refl

-- ---- what holds at each moment, of a slice, an overrun, processors and runs of leaves inside

record Holds (slice overrun n runs : ℕ) (g : Group) : Type 0 where
  owes : g.debt + overrun * runs + overrun ≤ g.left + (slice + overrun) + overrun * n
  room : g.left + slice * runs ≤ g.debt + slice * n + g.limit + g.burst

-- An event after which it holds again: what the runs that end used is no more than what was taken
-- for them, and what new periods bring.
record Goes (slice overrun n runs runs' used periods : ℕ) (g g' : Group) : Type 0 where
  limit : g'.limit ≡ g.limit
  burst : g'.burst ≡ g.burst
  holds : Holds slice overrun n runs' g'
  uses : g.debt + g'.left + used + slice * runs'
      ≤ g'.debt + g.left + slice * runs + periods * g.limit

stays : (slice overrun n runs runs' : ℕ) (g : Group) → runs' ≡ runs
    → Holds slice overrun n runs g → Goes slice overrun n runs runs' 0 0 g g
stays slice overrun n runs runs' g same h =
    let of_slice : slice * runs' ≡ slice * runs = ap (λ m. slice * m) same in
    let of_overrun : overrun * runs' ≡ overrun * runs = ap (λ m. overrun * m) same in
    record {
      limit = refl;
      burst = refl;
      holds = record {
        owes = omega (arith, h.owes, of_overrun);
        room = omega (arith, h.room, of_slice);
      };
      uses = omega (arith, of_slice);
    }

one_more : (q m m' : ℕ) → m' ≡ m + 1 → q * m' ≡ q * m + q
one_more q m m' is =
    ap (λ k. q * k) is ∙ (let more : q * (m + 1) ≡ q * m + q = omega arith in more)

goes_picked : (slice overrun n runs runs' : ℕ) (g : Group) → runs' ≡ runs + 1 → runs' ≤ n
    → g.debt < g.left → Holds slice overrun n runs g
    → Goes slice overrun n runs runs' 0 0 g (balanced g slice 0)
goes_picked slice overrun n runs runs' g more few some h =
    let of_slice = one_more slice runs runs' more in
    let most : overrun * runs' ≤ overrun * n = mul-le-mul_left overrun few in
    record {
      limit = refl;
      burst = refl;
      holds = record {
        owes = omega (arith, some, most);
        room = omega (arith, h.room, of_slice);
      };
      uses = omega (arith, of_slice);
    }

goes_ended : (slice overrun n runs runs' used : ℕ) (g : Group) → runs ≡ runs' + 1
    → used ≤ slice + overrun → Holds slice overrun n runs g
    → Goes slice overrun n runs runs' used 0 g (balanced g used slice)
goes_ended slice overrun n runs runs' used g fewer short h =
    let of_slice = one_more slice runs' runs fewer in
    let of_overrun = one_more overrun runs' runs fewer in
    record {
      limit = refl;
      burst = refl;
      holds = record {
        owes = omega (arith, h.owes, of_overrun, short);
        room = omega (arith, h.room, of_slice);
      };
      uses = omega (arith, of_slice);
    }

goes_refilled : (slice overrun n runs : ℕ) (g : Group) → runs ≤ n
    → Holds slice overrun n runs g → Goes slice overrun n runs runs 0 1 g (refilled g)
goes_refilled slice overrun n runs g few h =
    let most : overrun * runs ≤ overrun * n = mul-le-mul_left overrun few in
    let most_slices : slice * runs ≤ slice * n = mul-le-mul_left slice few in
    record {
      limit = refl;
      burst = refl;
      holds = record {
        owes = omega (arith, h.owes, most);
        room = omega (arith, most_slices);
      };
      uses = omega arith;
    }

-- ---- events

-- each state of a run
record Kept (inside : ℕ → Bool) (slice overrun n : ℕ) (s : Reservations) (g : Group) : Type 0 where
  processors : length s.processors ≡ n
  slice_is : s.slice ≡ slice
  quantum_is : s.quantum ≡ slice + overrun
  holds : Holds slice overrun n (inside_runs inside s.processors) g

record Steps (inside : ℕ → Bool) (slice overrun n : ℕ) (s t : Reservations) (g h : Group)
    (used periods : ℕ) : Type 0 where
  limit : h.limit ≡ g.limit
  burst : h.burst ≡ g.burst
  kept : Kept inside slice overrun n t h
  uses : g.debt + h.left + used + slice * inside_runs inside t.processors
      ≤ h.debt + g.left + slice * inside_runs inside s.processors + periods * g.limit

made : (inside : ℕ → Bool) (slice overrun n : ℕ) (s t : Reservations) (g h : Group)
    (used periods : ℕ) → length t.processors ≡ n → t.slice ≡ slice → t.quantum ≡ slice + overrun
    → Goes slice overrun n (inside_runs inside s.processors) (inside_runs inside t.processors) used
    periods g h → Steps inside slice overrun n s t g h used periods
made inside slice overrun n s t g h used periods processors slice_is quantum_is goes = record {
  limit = goes.limit;
  burst = goes.burst;
  kept = record {
    processors = processors;
    slice_is = slice_is;
    quantum_is = quantum_is;
    holds = goes.holds;
  };
  uses = goes.uses;
}

-- an event that changes no processor
same_runs : (inside : ℕ → Bool) (slice overrun n : ℕ) (s t : Reservations) (g : Group)
    → t.processors ≡ s.processors → t.slice ≡ s.slice → t.quantum ≡ s.quantum
    → Kept inside slice overrun n s g → Steps inside slice overrun n s t g g 0 0
same_runs inside slice overrun n s t g same of_slice of_quantum k =
    made inside slice overrun n s t g g 0 0 (ap length same ∙ k.processors)
    (of_slice ∙ k.slice_is) (of_quantum ∙ k.quantum_is)
    (stays slice overrun n (inside_runs inside s.processors) (inside_runs inside t.processors) g
    (ap (inside_runs inside) same) k.holds)

picked : (inside : ℕ → Bool) (slice overrun n : ℕ) (s : Reservations) (g : Group) (p i : ℕ)
    → KeepsLimit inside s g (Pick p i) → Kept inside slice overrun n s g
    → Steps inside slice overrun n s (after s (Pick p i)) g (group_after inside s g (Pick p i)) 0 0
picked inside slice overrun n s g p i fits k = by_test (inside i) refl where
  run : Run
  run = record { leaf = i; paid = paid_by s (account_at s i); age = 0 }

  t : Reservations
  t = after s (Pick p i)

  count : inside_runs inside t.processors + one_inside inside None
      ≡ inside_runs inside s.processors + one_inside inside (Some run)
  count = sum_set (one_inside inside) s.processors p None (Some run) fits.0

  processors : length t.processors ≡ n
  processors = length_set s.processors p (Some run) ∙ k.processors

  few : inside_runs inside t.processors ≤ n
  few = omega (arith, few_runs inside t.processors, processors)

  by_test : (b : Bool) → inside i ≡ b
      → Steps inside slice overrun n s t g
      (if◌then◌else◌ {A = Group} (inside i) (balanced g s.slice 0) g) 0 0
  by_test true is =
      subst (λ (b : Bool). Steps inside slice overrun n s t g
      (if◌then◌else◌ {A = Group} b (balanced g s.slice 0) g) 0 0) (sym is)
      (subst (λ (m : ℕ). Steps inside slice overrun n s t g (balanced g m 0) 0 0) (sym k.slice_is)
      (made inside slice overrun n s t g (balanced g slice 0) 0 0 processors k.slice_is
      k.quantum_is
      (goes_picked slice overrun n (inside_runs inside s.processors)
      (inside_runs inside t.processors) g
      (omega (arith, count, none_inside inside, begun_inside inside run is)) few (fits.1 is)
      k.holds)))
  by_test false is =
      subst (λ (b : Bool). Steps inside slice overrun n s t g
      (if◌then◌else◌ {A = Group} b (balanced g s.slice 0) g) 0 0) (sym is)
      (made inside slice overrun n s t g g 0 0 processors k.slice_is k.quantum_is
      (stays slice overrun n (inside_runs inside s.processors) (inside_runs inside t.processors) g
      (omega (arith, count, none_inside inside, begun_outside inside run is)) k.holds))

-- an end of the run that a processor has
ended_run : (inside : ℕ → Bool) (slice overrun n : ℕ) (s : Reservations) (g : Group)
    (p used : ℕ) (remains : Bool) (run : Run) → slice_get s.processors p ≡ Some (Some run)
    → used ≤ s.quantum → Kept inside slice overrun n s g
    → Steps inside slice overrun n s (state_ended s p used remains (Some (Some run))) g
    (group_ended inside s.slice used g (Some (Some run))) (used_by inside used (Some (Some run))) 0
ended_run inside slice overrun n s g p used remains run runs short k =
    by_test (inside run.leaf) refl where
      t : Reservations
      t = state_ended s p used remains (Some (Some run))

      count : inside_runs inside t.processors + one_inside inside (Some run)
          ≡ inside_runs inside s.processors + one_inside inside None
      count = sum_set (one_inside inside) s.processors p (Some run) None runs

      processors : length t.processors ≡ n
      processors = length_set s.processors p None ∙ k.processors

      by_test : (b : Bool) → inside run.leaf ≡ b
          → Steps inside slice overrun n s t g
          (if◌then◌else◌ {A = Group} (inside run.leaf) (balanced g used s.slice) g)
          (if◌then◌else◌ {A = ℕ} (inside run.leaf) used 0) 0
      by_test true is =
          subst (λ (b : Bool). Steps inside slice overrun n s t g
          (if◌then◌else◌ {A = Group} b (balanced g used s.slice) g)
          (if◌then◌else◌ {A = ℕ} b used 0) 0) (sym is)
          (subst (λ (m : ℕ). Steps inside slice overrun n s t g (balanced g used m) used 0)
          (sym k.slice_is)
          (made inside slice overrun n s t g (balanced g used slice) used 0 processors k.slice_is
          k.quantum_is
          (goes_ended slice overrun n (inside_runs inside s.processors)
          (inside_runs inside t.processors) used g
          (omega (arith, count, none_inside inside, begun_inside inside run is))
          (omega (arith, short, k.quantum_is)) k.holds)))
      by_test false is =
          subst (λ (b : Bool). Steps inside slice overrun n s t g
          (if◌then◌else◌ {A = Group} b (balanced g used s.slice) g)
          (if◌then◌else◌ {A = ℕ} b used 0) 0) (sym is)
          (made inside slice overrun n s t g g 0 0 processors k.slice_is k.quantum_is
          (stays slice overrun n (inside_runs inside s.processors)
          (inside_runs inside t.processors) g
          (omega (arith, count, none_inside inside, begun_outside inside run is)) k.holds))

ended : (inside : ℕ → Bool) (slice overrun n : ℕ) (s : Reservations) (g : Group) (p used : ℕ)
    (remains : Bool) (q : Option (Option Run)) → slice_get s.processors p ≡ q
    → used ≤ s.quantum → Kept inside slice overrun n s g
    → Steps inside slice overrun n s (state_ended s p used remains q) g
    (group_ended inside s.slice used g q) (used_by inside used q) 0
ended inside slice overrun n s g p used remains None is short k =
    same_runs inside slice overrun n s s g refl refl refl k
ended inside slice overrun n s g p used remains (Some None) is short k =
    same_runs inside slice overrun n s s g refl refl refl k
ended inside slice overrun n s g p used remains (Some (Some run)) is short k =
    ended_run inside slice overrun n s g p used remains run is short k

step : (inside : ℕ → Bool) (slice overrun n : ℕ) (s : Reservations) (g : Group) (e : Step)
    → KeepsLimit inside s g e → Kept inside slice overrun n s g
    → Steps inside slice overrun n s (after s e) g (group_after inside s g e) (used_at inside s e)
    (period_at e)
step inside slice overrun n s g (Pass t) fits k =
    made inside slice overrun n s (after s (Pass t)) g g 0 0
    (length-map s.processors (aged t) ∙ k.processors) k.slice_is k.quantum_is
    (stays slice overrun n (inside_runs inside s.processors)
    (inside_runs inside (map (aged t) s.processors)) g (aged_runs inside t s.processors) k.holds)
step inside slice overrun n s g (Wake i tasks) fits k =
    same_runs inside slice overrun n s (after s (Wake i tasks)) g refl refl refl k
step inside slice overrun n s g (Pick p i) fits k =
    picked inside slice overrun n s g p i fits k
step inside slice overrun n s g (End p used remains) fits k =
    ended inside slice overrun n s g p used remains (slice_get s.processors p) refl fits k
step inside slice overrun n s g Level fits k =
    same_runs inside slice overrun n s (after s Level) g refl refl refl k
step inside slice overrun n s g (Give i amount guarantee) fits k =
    same_runs inside slice overrun n s (after s (Give i amount guarantee)) g refl refl refl k
step inside slice overrun n s g (Leave i) fits k =
    same_runs inside slice overrun n s (after s (Leave i)) g refl refl refl k
step inside slice overrun n s g (Cut i) fits k =
    same_runs inside slice overrun n s (after s (Cut i)) g refl refl refl k
step inside slice overrun n s g (Stop i stops) fits k =
    same_runs inside slice overrun n s (after s (Stop i stops)) g refl refl refl k
step inside slice overrun n s g Refill fits k =
    made inside slice overrun n s s g (refilled g) 0 1 k.processors k.slice_is k.quantum_is
    (goes_refilled slice overrun n (inside_runs inside s.processors) g
    (omega (arith, few_runs inside s.processors, k.processors)) k.holds)

-- ---- runs

-- the group after all events
abbrev group_after_all : (ℕ → Bool) → Reservations → Group → List Step → Group
group_after_all inside s g [] = g
group_after_all inside s g (e ∷ es) =
    group_after_all inside (after s e) (group_after inside s g e) es

-- two parts of a run
record Parts (inside : ℕ → Bool) (slice overrun n : ℕ) (s : Reservations) (g : Group)
    (window : List Step) : Type 0 where
  group : Group
  limit : group.limit ≡ g.limit
  burst : group.burst ≡ g.burst
  kept : Kept inside slice overrun n s group
  run : IsLimitedRun inside s group window

split : (inside : ℕ → Bool) (slice overrun n : ℕ) (s : Reservations) (g : Group)
    (before window : List Step) → Kept inside slice overrun n s g
    → IsLimitedRun inside s g (before ++ window)
    → Parts inside slice overrun n (after_all s before) g window
split inside slice overrun n s g [] window k run =
    record { group = g; limit = refl; burst = refl; kept = k; run = run }
split inside slice overrun n s g (e ∷ es) window k run =
    let one = step inside slice overrun n s g e run.0 k in
    let rest = split inside slice overrun n (after s e) (group_after inside s g e) es window
    one.kept run.1 in
    record {
      group = rest.group;
      limit = rest.limit ∙ one.limit;
      burst = rest.burst ∙ one.burst;
      kept = rest.kept;
      run = rest.run;
    }

all_steps : (inside : ℕ → Bool) (slice overrun n : ℕ) (s : Reservations) (g : Group)
    (es : List Step) → Kept inside slice overrun n s g → IsLimitedRun inside s g es
    → Steps inside slice overrun n s (after_all s es) g (group_after_all inside s g es)
    (used_in inside s es) (periods_in es)
all_steps inside slice overrun n s g [] k run =
    same_runs inside slice overrun n s s g refl refl refl k
all_steps inside slice overrun n s g (e ∷ es) k run =
    let one = step inside slice overrun n s g e run.0 k in
    let rest = all_steps inside slice overrun n (after s e) (group_after inside s g e) es one.kept
    run.1 in
    let same : periods_in es * (group_after inside s g e).limit ≡ periods_in es * g.limit =
    ap (λ m. periods_in es * m) one.limit in
    let both : (period_at e + periods_in es) * g.limit
    ≡ period_at e * g.limit + periods_in es * g.limit = omega arith in
    record {
      limit = rest.limit ∙ one.limit;
      burst = rest.burst ∙ one.burst;
      kept = rest.kept;
      uses = omega (arith, one.uses, rest.uses, same, both);
    }

numbers : (slice overrun n runs runs' used periods limit burst left debt left' debt' : ℕ)
    → left + slice * runs ≤ debt + slice * n + limit + burst
    → debt' + overrun * runs' + overrun ≤ left' + (slice + overrun) + overrun * n
    → debt + left' + used + slice * runs' ≤ debt' + left + slice * runs + periods * limit
    → used ≤ (periods + 1) * limit + burst + n * (slice + overrun) + slice
numbers slice overrun n runs runs' used periods limit burst left debt left' debt' room owes uses =
    let limits : (periods + 1) * limit ≡ periods * limit + limit = omega arith in
    let quanta : n * (slice + overrun) ≡ slice * n + overrun * n = omega arith in
    omega (arith, room, owes, uses, limits, quanta)

pub limits_are_kept : LimitsAreKept
limits_are_kept inside s g before window idle short fresh free run =
    subst (λ (q : ℕ). used_in inside (after_all s before) window
    ≤ (periods_in window + 1) * g.limit + g.burst + length s.processors * q + s.slice)
    (sym quantum_is) bound where
      overrun : ℕ
      overrun = s.quantum - s.slice

      quantum_is : s.quantum ≡ s.slice + overrun
      quantum_is = omega (arith, short)

      n : ℕ
      n = length s.processors

      none : inside_runs inside s.processors ≡ 0
      none = none_run inside s.processors idle

      first : Kept inside s.slice overrun n s g
      first =
          let of_slice : s.slice * inside_runs inside s.processors ≡ s.slice * 0 =
          ap (λ m. s.slice * m) none in
          let of_overrun : overrun * inside_runs inside s.processors ≡ overrun * 0 =
          ap (λ m. overrun * m) none in
          record {
            processors = refl;
            slice_is = refl;
            quantum_is = quantum_is;
            holds = record {
              owes = omega (arith, of_overrun, free);
              room = omega (arith, fresh, of_slice);
            };
          }

      parts : Parts inside s.slice overrun n (after_all s before) g window
      parts = split inside s.slice overrun n s g before window first run

      bound : used_in inside (after_all s before) window
          ≤ (periods_in window + 1) * g.limit + g.burst + n * (s.slice + overrun) + s.slice
      bound =
          let all = all_steps inside s.slice overrun n (after_all s before) parts.group window
          parts.kept parts.run in
          let limits : (periods_in window + 1) * parts.group.limit
          ≡ (periods_in window + 1) * g.limit =
          ap (λ m. (periods_in window + 1) * m) parts.limit in
          let most = numbers s.slice overrun n
          (inside_runs inside (after_all s before).processors)
          (inside_runs inside (after_all (after_all s before) window).processors)
          (used_in inside (after_all s before) window) (periods_in window) parts.group.limit
          parts.group.burst parts.group.left parts.group.debt
          (group_after_all inside (after_all s before) parts.group window).left
          (group_after_all inside (after_all s before) parts.group window).debt
          parts.kept.holds.room all.kept.holds.owes all.uses in
          omega (arith, most, limits, parts.burst)

-- ---- the test of a trace

picked_within : (b : Bool) (g : Group) → (not b || nat_lt g.debt g.left) ≡ true → b ≡ true
    → g.debt < g.left
picked_within true g is inside = ltb-true g.debt g.left is
picked_within false g is inside = absurd (cc inside)

within_told : (b : Bool) (g : Group) → (b ≡ true → g.debt < g.left)
    → (not b || nat_lt g.debt g.left) ≡ true
within_told true g within = lt-ltb g.debt g.left (within refl)
within_told false g within = refl

used_within : (b : Bool) → not b ≡ true → b ≡ false
used_within true is = absurd (let clash : false ≡ true = is in cc clash)
used_within false is = refl

pub limit_is_told : LimitIsTold
limit_is_told s g (Pass t) may = (λ is. tt, λ h. refl)
limit_is_told s g (Wake i tasks) may = (λ is. tt, λ h. refl)
limit_is_told s g (Pick p i) may = (
  λ is. (may.free, picked_within (inside_of s i) g is),
  λ h. within_told (inside_of s i) g h.1,
)
limit_is_told s g (End p used remains) may = (
  λ is. ltb-false s.quantum used (used_within (nat_lt s.quantum used) is),
  λ h. ap not (le-ltb s.quantum used h),
)
limit_is_told s g Level may = (λ is. tt, λ h. refl)
limit_is_told s g (Give i amount guarantee) may = (λ is. tt, λ h. refl)
limit_is_told s g (Leave i) may = (λ is. tt, λ h. refl)
limit_is_told s g (Cut i) may = (λ is. tt, λ h. refl)
limit_is_told s g (Stop i stops) may = (λ is. tt, λ h. refl)
limit_is_told s g Refill may = (λ is. tt, λ h. refl)

-- ---- who is inside stays so

either_inside : (b : Bool) (x y : Account) (c : Bool) → x.is_inside ≡ c → y.is_inside ≡ c
    → (if◌then◌else◌ {A = Account} b x y).is_inside ≡ c
either_inside true x y c one two = one
either_inside false x y c one two = two

set_inside : (xs : List Account) (j i : ℕ) (a : Account)
    → a.is_inside ≡ (get_or xs j no_account).is_inside
    → inside_at (slice_get (slice_set xs j a) i) ≡ inside_at (slice_get xs i)
set_inside [] j i a same = refl
set_inside (x ∷ xs) zero zero a same = same
set_inside (x ∷ xs) zero (suc i) a same = refl
set_inside (x ∷ xs) (suc j) zero a same = refl
set_inside (x ∷ xs) (suc j) (suc i) a same = set_inside xs j i a same

map_inside : (t : Terms) (ns : ℕ) (xs : List Account) (i : ℕ)
    → inside_at (slice_get (map (passed_in t ns) xs) i) ≡ inside_at (slice_get xs i)
map_inside t ns [] i = refl
map_inside t ns (x ∷ xs) zero = refl
map_inside t ns (x ∷ xs) (suc i) = map_inside t ns xs i

ended_inside : (s : Reservations) (p used : ℕ) (remains : Bool) (q : Option (Option Run)) (i : ℕ)
    → inside_of (state_ended s p used remains q) i ≡ inside_of s i
ended_inside s p used remains None i = refl
ended_inside s p used remains (Some None) i = refl
ended_inside s p used remains (Some (Some run)) i =
    let a = account_at s run.leaf in
    let now : Account = record a {
      share = shares.ended s.slice used remains a.share;
      owed = settled_owed (quantum_of s) run.paid (WHOLE * run.age)
          (capped_owed (terms_of s) a);
    } in
    set_inside s.accounts run.leaf i (reserved.ended s run used remains a)
    (either_inside (nat_lt (rate_of now) (rate_of a)) (cut s now) now a.is_inside refl refl)

inside_stays : (s : Reservations) (e : Step) (i : ℕ) → inside_of (after s e) i ≡ inside_of s i
inside_stays s (Pass t) i = map_inside (terms_of s) t s.accounts i
inside_stays s (Wake j tasks) i =
    set_inside s.accounts j i (woken s tasks (account_at s j)) refl
inside_stays s (Pick p j) i =
    set_inside s.accounts j i (reserved.picked s (account_at s j)) refl
inside_stays s (End p used remains) i =
    ended_inside s p used remains (slice_get s.processors p) i
inside_stays s Level i = refl
inside_stays s (Give j amount guarantee) i =
    set_inside s.accounts j i (given s amount guarantee (account_at s j)) refl
inside_stays s (Leave j) i =
    let a = account_at s j in
    let now : Account = record (capped (terms_of s) a) {
      share = record a.share { waiting = a.share.waiting - 1 };
    } in
    set_inside s.accounts j i (left s a)
    (either_inside (nat_lt (rate_of now) (rate_of a)) (cut s now) now a.is_inside refl refl)
inside_stays s (Cut j) i = set_inside s.accounts j i (cut s (account_at s j)) refl
inside_stays s (Stop j stops) i =
    set_inside s.accounts j i (stopped s stops (account_at s j))
    (either_inside stops (record (cut s (account_at s j)) { is_stopped = true })
    (record (account_at s j) { is_stopped = false }) (account_at s j).is_inside refl refl)
inside_stays s Refill i = refl

-- two ways to say who is inside
same_ended : (one two : ℕ → Bool) (slice used : ℕ) (g : Group) (q : Option (Option Run))
    → ((i : ℕ) → one i ≡ two i)
    → group_ended one slice used g q ≡ group_ended two slice used g q
same_ended one two slice used g None same = refl
same_ended one two slice used g (Some None) same = refl
same_ended one two slice used g (Some (Some run)) same =
    ap (λ (b : Bool). if◌then◌else◌ {A = Group} b (balanced g used slice) g) (same run.leaf)

same_after : (one two : ℕ → Bool) (s : Reservations) (g : Group) (e : Step)
    → ((i : ℕ) → one i ≡ two i) → group_after one s g e ≡ group_after two s g e
same_after one two s g (Pass t) same = refl
same_after one two s g (Wake i tasks) same = refl
same_after one two s g (Pick p i) same =
    ap (λ (b : Bool). if◌then◌else◌ {A = Group} b (balanced g s.slice 0) g) (same i)
same_after one two s g (End p used remains) same =
    same_ended one two s.slice used g (slice_get s.processors p) same
same_after one two s g Level same = refl
same_after one two s g (Give i amount guarantee) same = refl
same_after one two s g (Leave i) same = refl
same_after one two s g (Cut i) same = refl
same_after one two s g (Stop i stops) same = refl
same_after one two s g Refill same = refl

same_keeps : (one two : ℕ → Bool) (s : Reservations) (g : Group) (e : Step)
    → ((i : ℕ) → one i ≡ two i) → KeepsLimit two s g e → KeepsLimit one s g e
same_keeps one two s g (Pass t) same keeps = tt
same_keeps one two s g (Wake i tasks) same keeps = tt
same_keeps one two s g (Pick p i) same keeps =
    (keeps.0, λ inside. keeps.1 (sym (same i) ∙ inside))
same_keeps one two s g (End p used remains) same keeps = keeps
same_keeps one two s g Level same keeps = tt
same_keeps one two s g (Give i amount guarantee) same keeps = tt
same_keeps one two s g (Leave i) same keeps = tt
same_keeps one two s g (Cut i) same keeps = tt
same_keeps one two s g (Stop i stops) same keeps = tt
same_keeps one two s g Refill same keeps = tt

told_runs : (inside : ℕ → Bool) (s : Reservations) (g : Group) (es : List Step)
    → ((i : ℕ) → inside i ≡ inside_of s i) → IsToldToKeep s g es → IsLimitedRun inside s g es
told_runs inside s g [] same told = tt
told_runs inside s g (e ∷ es) same told = (
  same_keeps inside (inside_of s) s g e same ((limit_is_told s g e told.0).0 told.1),
  told_runs inside (after s e) (group_after inside s g e) es
      (λ i. same i ∙ sym (inside_stays s e i))
      (subst (λ (h : Group). IsToldToKeep (after s e) h es)
      (sym (same_after inside (inside_of s) s g e same)) told.2),
)

pub told_runs_are_limited : ToldRunsAreLimited
told_runs_are_limited s g es told = told_runs (inside_of s) s g es (λ i. refl) told
