-- Runs of the rule of reservations, and what it promises of each window of time.
use Rattle.std.specs.Prelude.{◌≡◌, ◌≢◌, ℕ, ◌+◌, ◌-◌, ◌*◌, ◌<◌, ◌≤◌, ◌==◌, ◌⊎◌, min, List, []}
use Rattle.std.specs.Prelude.{slice_get, false}
use Rattle.std.specs.Prelude.{◌∷◌, ◌++◌, length, Option, None, Some, if◌then◌else◌}
use Rattle.std.specs.List.{sum_by, AllByRecursion}
use Rattle.dispatch.specs.declared.reservation.Run.{Run}
use Rattle.dispatch.specs.declared.reservation.Step.{Step}
use Rattle.dispatch.specs.declared.reservation.Step.TheVariants.{Pass, Wake, Pick, End, Level}
use Rattle.dispatch.specs.declared.reservation.Step.TheVariants.{Give, Leave, Cut, Stop, Refill}
use Rattle.dispatch.specs.Reservation.{Reservations, WHOLE, account_at, quantum_of, tasks_of}
use Rattle.dispatch.specs.Reservation.{rate_of, credit_of, most_of, after, Allows, Waits, ready_in}

-- The host has room: the guarantees add up to its processors at most, and the slack is not above
-- the credit.
pub record FitsHost (s : Reservations) : Type 0 where
  pub some : 0 < length s.processors
  pub guarantees : sum_by (λ a. a.guarantee) s.accounts ≤ WHOLE * length s.processors
  pub slack : s.slack ≤ s.credit

-- A beginning: no processor runs a task, and no leaf is owed more than its credit.
pub record IsAtRest (s : Reservations) : Type 0 where
  pub idle : AllByRecursion (λ q. q ≡ None) s.processors
  pub running : (k : ℕ) → (account_at s k).share.running ≡ 0
  pub owed : (k : ℕ) → (account_at s k).owed ≤ credit_of s (account_at s k)

-- Each leaf that is owed more than its credit has a task that waits.
abbrev pub WaitsBeyondCredit : Reservations → Type 0
WaitsBeyondCredit s =
    (k : ℕ) → credit_of s (account_at s k) < (account_at s k).owed → Waits s k

-- A leaf that waits has as many tasks as its guarantee has processors. Of a guarantee of one
-- processor or less that is always so.
abbrev pub HasTasksForGuarantees : Reservations → Type 0
HasTasksForGuarantees s =
    (k : ℕ) → Waits s k → (account_at s k).guarantee ≤ tasks_of (account_at s k) * WHOLE

-- the processor runs a task
abbrev pub IsBusy : Option Run → Type 0
IsBusy None = ⊥
IsBusy (Some run) = Unit {0}

-- no leaf has a task that waits and that no limit stops
abbrev pub NoneWaits : Reservations → Type 0
NoneWaits s = (k : ℕ) → ready_in (account_at s k) ≡ 0

-- the run takes no more than this, also if this much time passes
abbrev pub RunsWithin : ℕ → ℕ → Option Run → Type 0
RunsWithin quantum t None = Unit {0}
RunsWithin quantum t (Some run) = run.age + t ≤ quantum

-- The leaf is owed no more than the most, so nothing of it is forgotten.
abbrev pub IsWhole : Reservations → ℕ → Type 0
IsWhole s i = (account_at s i).owed ≤ most_of s (account_at s i)

-- so it is of the leaf that a processor runs, if it runs one
abbrev pub IsWholeAt : Reservations → Option (Option Run) → Type 0
IsWholeAt s (Some (Some run)) = IsWhole s run.leaf
IsWholeAt s _ = Unit {0}

-- The premises of the law at an event. They can be told of each event of a trace.
abbrev pub IsFair : Reservations → Step → Type 0
IsFair s (Pass t) = AllByRecursion (RunsWithin s.quantum t) s.processors
IsFair s (Wake i tasks) = IsWhole s i
IsFair s (Pick p i) = WaitsBeyondCredit s × HasTasksForGuarantees s × IsWhole s i
IsFair s (End p used remains) =
    AllByRecursion (RunsWithin s.quantum 0) s.processors
    × IsWholeAt s (slice_get s.processors p)
IsFair s Level = Unit {0}
IsFair s (Give i amount guarantee) = (guarantee ≡ (account_at s i).guarantee) × IsWhole s i
IsFair s (Leave i) = IsWhole s i
IsFair s (Cut i) = Unit {0}
IsFair s (Stop i stops) = Unit {0}
IsFair s Refill = Unit {0}

-- The processors' time that was lost before an event and after it, since a moment when no leaf
-- waited and none was owed more than its credit. All processors' time counts while one is free and
-- a leaf waits.
abbrev pub IsLost : ℕ → ℕ → Reservations → Step → Type 0
IsLost lost now s (Pass t) =
    (AllByRecursion IsBusy s.processors × (now ≡ lost))
    ⊎ ((NoneWaits s × WaitsBeyondCredit s × (now ≡ 0))
    ⊎ (now ≡ lost + length s.processors * t))
IsLost lost now s _ = now ≡ lost

-- the rule allows each event
abbrev pub IsRun : Reservations → List Step → Type 0
IsRun s [] = Unit {0}
IsRun s (e ∷ es) = Allows s e × IsRun (after s e) es

-- The rule allows each event, the premises hold, and no more time is lost than this. So much was
-- lost before.
abbrev pub IsFairRun : ℕ → ℕ → Reservations → List Step → Type 0
IsFairRun most lost s [] = Unit {0}
IsFairRun most lost s (e ∷ es) = Allows s e × IsFair s e
    × ((now : ℕ) × IsLost lost now s e × (now ≤ most) × IsFairRun most now (after s e) es)

-- the state after all events
abbrev pub after_all : Reservations → List Step → Reservations
after_all s [] = s
after_all s (e ∷ es) = after_all (after s e) es

-- amount that a run would give back if it ended now
abbrev pub back_of : ℕ → Run → ℕ
back_of quantum run = min (quantum - WHOLE * run.age) run.paid

-- the sum of a number over the runs of a leaf
abbrev pub of_run : ℕ → (Run → ℕ) → Option Run → ℕ
of_run i f None = 0
of_run i f (Some run) = if run.leaf == i then f run else 0

abbrev pub over_runs : ℕ → (Run → ℕ) → List (Option Run) → ℕ
over_runs i f qs = sum_by (of_run i f) qs

-- Amount that the leaf would be owed if each of its runs ended now, and a quantum more.
abbrev pub owed_in_all : Reservations → ℕ → ℕ
owed_in_all s i =
    (account_at s i).owed + over_runs i (back_of (quantum_of s)) s.processors

-- A leaf is owed no more than this, whatever the others do and how many they are.
abbrev pub OwedIsBounded : Type 0
OwedIsBounded = (s : Reservations) (events : List Step) (most i : ℕ) → IsAtRest s → FitsHost s
    → IsFairRun most 0 s events → i < length s.accounts →
    let t = after_all s events in
    0 < (account_at t i).guarantee
    → owed_in_all t i ≤ most_of t (account_at t i) + WHOLE * most

-- the nanoseconds that pass
abbrev pub time_of : List Step → ℕ
time_of [] = 0
time_of (Pass t ∷ es) = t + time_of es
time_of (_ ∷ es) = time_of es

-- The time that the leaf's tasks had a processor in these events, in nanoseconds: each that passes
-- counts for each processor that runs a task of the leaf.
abbrev pub held_at : ℕ → Reservations → Step → ℕ
held_at i s (Pass t) = t * over_runs i (λ run. 1) s.processors
held_at i s _ = 0

abbrev pub held_in : ℕ → Reservations → List Step → ℕ
held_in i s [] = 0
held_in i s (e ∷ es) = held_at i s e + held_in i (after s e) es

-- The leaf wants k processors: while time passes it has k tasks that wait or run, and no limit
-- stops it. Its tasks do not become fewer than its guarantee could use.
abbrev pub WantsAt : ℕ → ℕ → Reservations → Step → Type 0
WantsAt k i s (Pass t) = (k ≤ tasks_of (account_at s i)) × ((account_at s i).is_stopped ≡ false)
WantsAt k i s (End p used remains) =
    rate_of (account_at s i) ≤ rate_of (account_at (after s (End p used remains)) i)
WantsAt k i s (Leave j) =
    rate_of (account_at s i) ≤ rate_of (account_at (after s (Leave j)) i)
WantsAt k i s (Cut j) = j ≢ i
WantsAt k i s (Stop j stops) = j ≢ i
WantsAt k i s _ = Unit {0}

abbrev pub Wants : ℕ → ℕ → Reservations → List Step → Type 0
Wants k i s [] = Unit {0}
Wants k i s (e ∷ es) = WantsAt k i s e × Wants k i (after s e) es

-- In each window of a run a leaf that wants k processors has them, or its guarantee if that is
-- less, but for two quanta for each processor, the credit of its guarantee, and the time that may
-- be lost. Other leaves, their number, and plans that keep the guarantees change nothing.
abbrev pub WindowsAreServed : Type 0
WindowsAreServed = (s : Reservations) (before window : List Step) (most i k : ℕ) → IsAtRest s
    → FitsHost s → IsFairRun most 0 s (before ++ window) → i < length s.accounts →
    let t = after_all s before in
    Wants k i t window → min (k * WHOLE) (account_at t i).guarantee * time_of window
    ≤ WHOLE * held_in i t window + (most_of t (account_at t i) + WHOLE * most)
