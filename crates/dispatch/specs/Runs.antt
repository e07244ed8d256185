-- Runs of the dispatcher from a common start, and what the rule promises of them. A use and a lead
-- are in nanoseconds. No promise divides: a use over an amount is compared by products.
use Rattle.std.specs.Prelude.{◌≡◌, ◌≢◌, ℕ, ◌+◌, ◌-◌, ◌*◌, ◌<◌, ◌≤◌, ◌==◌, Bool, true, List, []}
use Rattle.std.specs.Prelude.{◌∷◌, ◌++◌, length}
use Rattle.std.specs.Prelude.{Option, None, Some, slice_get, if◌then◌else◌}
use Rattle.std.specs.List.{sum_by}
use Rattle.dispatch.specs.declared.events.Event.{Event}
use Rattle.dispatch.specs.declared.events.Event.TheVariants.{Wake, Pick, End}
use Rattle.dispatch.specs.Rule.{DispatchState, leaf_at, has_tasks, after, Allows, MayPick}

-- 1 if the processor runs a task of the leaf
abbrev pub one_run : ℕ → Option ℕ → ℕ
one_run i None = 0
one_run i (Some k) = if k == i then 1 else 0

-- the number of processors that run a task of the leaf
abbrev pub runs_of : ℕ → List (Option ℕ) → ℕ
runs_of i [] = 0
runs_of i (q ∷ qs) = one_run i q + runs_of i qs

-- A common start: all clocks are 0, nothing is used, and no processor runs a task. Tasks may wait.
pub record IsStart (s : DispatchState) : Type 0 where
  pub clocks : (k : ℕ) → (leaf_at s k).charged ≡ 0
  pub uses : (k : ℕ) → (leaf_at s k).used ≡ 0
  pub free : (k : ℕ) → runs_of k s.processors ≡ 0

-- the state after all events
abbrev pub after_all : DispatchState → List Event → DispatchState
after_all s [] = s
after_all s (e ∷ es) = after_all (after s e) es

-- a task that ends its run has used at most this time
abbrev pub UsesAtMost : ℕ → Event → Type 0
UsesAtMost most (Wake i tasks) = Unit {0}
UsesAtMost most (Pick p i) = Unit {0}
UsesAtMost most (End p used remains) = used ≤ most

-- the rule allows each event, and no task runs longer than the slice and this overrun
abbrev pub IsRun : ℕ → DispatchState → List Event → Type 0
IsRun overrun s [] = Unit {0}
IsRun overrun s (e ∷ es) =
    Allows s e × UsesAtMost (s.slice + overrun) e × IsRun overrun (after s e) es

-- at a pick the leaf has a waiting task, and a wake does not lift it
abbrev pub WaitsAt : ℕ → DispatchState → Event → Type 0
WaitsAt j s (Wake i tasks) =
    (leaf_at (after s (Wake i tasks)) j).charged ≡ (leaf_at s j).charged
WaitsAt j s (Pick p i) = 0 < (leaf_at s j).waiting
WaitsAt j s (End p used remains) = Unit {0}

-- the leaf has a waiting task at each pick of the run, and is never lifted
abbrev pub WaitsThroughout : ℕ → DispatchState → List Event → Type 0
WaitsThroughout j s [] = Unit {0}
WaitsThroughout j s (e ∷ es) = WaitsAt j s e × WaitsThroughout j (after s e) es

-- A leaf of amount a may be ahead of one of amount b that waits throughout by one slice of its own,
-- and by the slices of the other that run on all processors but one. An overrun counts for each
-- processor. All is times both amounts.
abbrev pub most_ahead : (slice overrun processors a b : ℕ) → ℕ
most_ahead slice overrun processors a b =
    slice * b + (processors - 1) * (slice * a) + processors * (overrun * b)

-- the use of the leaf, with all that its running tasks may still use
abbrev pub use_at_most : ℕ → DispatchState → ℕ → ℕ
use_at_most overrun s i =
    (leaf_at s i).used + (s.slice + overrun) * runs_of i s.processors

-- No leaf gets far ahead of one that waits throughout, whatever the others do: used_i / a_i is at
-- most used_j / a_j + slice / a_i + (processors - 1) * slice / a_j, where no task overruns its
-- slice. It holds even if the running tasks of i have used all that they may, and those of j
-- nothing.
abbrev pub LeadIsBounded : Type 0
LeadIsBounded = (s : DispatchState) (overrun i j : ℕ) (events : List Event) → IsStart s
    → IsRun overrun s events → WaitsThroughout j s events → i ≢ j →
    let t = after_all s events in
    let a = (leaf_at t i).amount in let b = (leaf_at t j).amount in
    use_at_most overrun t i * b
    ≤ (leaf_at t j).used * a + most_ahead s.slice overrun (length s.processors) a b

-- Between any two times of a run, of two leaves that wait throughout, neither gains on the other by
-- more than both leads together.
abbrev pub GainIsBounded : Type 0
GainIsBounded = (s : DispatchState) (overrun i j : ℕ) (before later : List Event) → IsStart s
    → IsRun overrun s (before ++ later) → WaitsThroughout i s (before ++ later)
    → WaitsThroughout j s (before ++ later) → i ≢ j →
    let t = after_all s before in let u = after_all s (before ++ later) in
    let a = (leaf_at u i).amount in let b = (leaf_at u j).amount in
    (leaf_at u i).used * b + (leaf_at t j).used * a
    ≤ (leaf_at u j).used * a + (leaf_at t i).used * b
    + (most_ahead s.slice overrun (length s.processors) a b
    + most_ahead s.slice overrun (length s.processors) b a)

-- the use of all leaves together
abbrev pub used_by_all : DispatchState → ℕ
used_by_all s = sum_by (λ l. l.used) s.leaves

-- the amounts of all leaves together
abbrev pub amount_of_all : DispatchState → ℕ
amount_of_all s = sum_by (λ l. l.amount) s.leaves

-- A leaf of amount b may be short by its part of a slice for each other leaf, and by the others'
-- part of a slice for each processor but one. An overrun counts for each other leaf and processor.
-- All is times the amounts of all.
abbrev pub most_short : (slice overrun processors leaves all b : ℕ) → ℕ
most_short slice overrun processors leaves all b =
    (leaves - 1) * (slice * b) + (processors - 1) * (slice * (all - b))
    + (leaves - 1) * (processors * (overrun * b))

-- A leaf that waits throughout has at least its part of the use of all, but for this, whatever the
-- others do.
abbrev pub ShareIsKept : Type 0
ShareIsKept = (s : DispatchState) (overrun j : ℕ) (events : List Event) → IsStart s
    → IsRun overrun s events → j < length s.leaves → WaitsThroughout j s events →
    let t = after_all s events in
    let b = (leaf_at t j).amount in let all = amount_of_all t in
    used_by_all t * b
    ≤ (leaf_at t j).used * all
    + most_short s.slice overrun (length s.processors) (length s.leaves) all b

-- each leaf has an amount
abbrev pub AreAmounts : DispatchState → Type 0
AreAmounts s = (k : ℕ) → k < length s.leaves → 0 < (leaf_at s k).amount

-- No processor idles while a leaf waits: a free processor may take a task then, and nothing but a
-- pick may be the next event of a free processor.
pub record NoProcessorIdles : Type 0 where
  pub may_pick : (s : DispatchState) (p k : ℕ) → AreAmounts s
      → slice_get s.processors p ≡ Some None → 0 < (leaf_at s k).waiting → (i : ℕ) × MayPick s p i
  pub only_a_pick : (s : DispatchState) (p used : ℕ) (remains : Bool)
      → slice_get s.processors p ≡ Some None → Allows s (End p used remains) → ⊥

-- Of a level, num / den of use for each unit of amount: no leaf that has reached it is picked while
-- a leaf waits that is short of it, even if its running tasks use their slices.
abbrev pub NoneIsPickedPastItsPlan : Type 0
NoneIsPickedPastItsPlan = (s : DispatchState) (overrun j p i num den : ℕ) (events : List Event)
    → IsStart s → AreAmounts s → IsRun overrun s events → j < length s.leaves
    → WaitsThroughout j s events →
    let t = after_all s events in
    0 < (leaf_at t j).waiting → use_at_most 0 t j * den < num * (leaf_at t j).amount
    → MayPick t p i → (leaf_at t i).used * den < num * (leaf_at t i).amount

-- A wake does not lift a leaf that has a task, nor any leaf while all clocks are 0.
pub record IsLiftedOnlyFromSleep : Type 0 where
  pub awake : (s : DispatchState) (j i tasks : ℕ) → i < length s.leaves
      → has_tasks (leaf_at s j) ≡ true → WaitsAt j s (Wake i tasks)
  pub at_start : (s : DispatchState) (j i tasks : ℕ) → i < length s.leaves → AreAmounts s
      → ((k : ℕ) → (leaf_at s k).charged ≡ 0) → WaitsAt j s (Wake i tasks)

-- A lifted clock is at most that of each leaf that has a task.
abbrev pub LiftIsAtMostTheLeast : Type 0
LiftIsAtMostTheLeast = (s : DispatchState) (i k tasks : ℕ) → i < length s.leaves → AreAmounts s
    → has_tasks (leaf_at s k) ≡ true →
    let woken = leaf_at (after s (Wake i tasks)) i in
    (leaf_at s i).charged < woken.charged
    → woken.charged * (leaf_at s k).amount ≤ (leaf_at s k).charged * woken.amount
