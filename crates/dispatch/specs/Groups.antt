-- Groups with a limit: what a pick takes of it in advance, and what the rule promises of periods.
use Rattle.std.specs.Prelude.{◌≡◌, ℕ, ◌+◌, ◌-◌, ◌*◌, ◌<◌, ◌≤◌, ◌^◌, ◌&&◌, ◌||◌, ◌↔◌}
use Rattle.std.specs.Prelude.{not, nat_lt, min, Bool, true, false, List}
use Rattle.std.specs.Prelude.{[], ◌∷◌, ◌++◌, length, Option, None, Some, slice_get, if◌then◌else◌}
use Rattle.std.specs.List.{AllByRecursion}
use Rattle.dispatch.specs.declared.budget.Group.{Group}
use Rattle.dispatch.specs.declared.reservation.Account.{Account}
use Rattle.dispatch.specs.declared.reservation.Run.{Run}
use Rattle.dispatch.specs.declared.reservation.Step.{Step}
use Rattle.dispatch.specs.declared.reservation.Step.TheVariants.{Pick, End, Refill}
use Rattle.dispatch.specs.Reservation.{Reservations, after, Allows}
use Rattle.dispatch.specs.Windows.{after_all}

-- the group after so much is taken, and so much given back
abbrev pub balanced : Group → ℕ → ℕ → Group
balanced g taken back = record g {
  left = g.left + back - (g.debt + taken);
  debt = g.debt + taken - (g.left + back);
}

-- the group in a new period: it has a limit more, but no more than a limit and the burst
abbrev pub refilled : Group → Group
refilled g = record (balanced g 0 g.limit) {
  left = min (balanced g 0 g.limit).left (g.limit + g.burst);
}

-- the group after a run on a processor: what was not used of the slice is given back
abbrev pub group_ended : (ℕ → Bool) → ℕ → ℕ → Group → Option (Option Run) → Group
group_ended inside slice used g (Some (Some run)) =
    if inside run.leaf then balanced g used slice else g
group_ended inside slice used g (Some None) = g
group_ended inside slice used g None = g

-- The group of the leaves inside it, after an event: a pick of one takes a slice.
abbrev pub group_after : (ℕ → Bool) → Reservations → Group → Step → Group
group_after inside s g (Pick p i) = if inside i then balanced g s.slice 0 else g
group_after inside s g (End p used remains) =
    group_ended inside s.slice used g (slice_get s.processors p)
group_after inside s g Refill = refilled g
group_after inside s g _ = g

-- The event keeps the limit: a leaf inside is picked, in its order or not, while something is left,
-- and for a processor that is free. No run uses more than a quantum.
abbrev pub KeepsLimit : (ℕ → Bool) → Reservations → Group → Step → Type 0
KeepsLimit inside s g (Pick p i) =
    (slice_get s.processors p ≡ Some None) × (inside i ≡ true → g.debt < g.left)
KeepsLimit inside s g (End p used remains) = used ≤ s.quantum
KeepsLimit inside s g _ = Unit {0}

-- each event keeps the limit
abbrev pub IsLimitedRun : (ℕ → Bool) → Reservations → Group → List Step → Type 0
IsLimitedRun inside s g [] = Unit {0}
IsLimitedRun inside s g (e ∷ es) =
    KeepsLimit inside s g e × IsLimitedRun inside (after s e) (group_after inside s g e) es

-- time that a run on a processor used, if its leaf is inside
abbrev pub used_by : (ℕ → Bool) → ℕ → Option (Option Run) → ℕ
used_by inside used (Some (Some run)) = if inside run.leaf then used else 0
used_by inside used (Some None) = 0
used_by inside used None = 0

-- time that leaves inside used in runs that end at an event
abbrev pub used_at : (ℕ → Bool) → Reservations → Step → ℕ
used_at inside s (End p used remains) = used_by inside used (slice_get s.processors p)
used_at inside s _ = 0

abbrev pub used_in : (ℕ → Bool) → Reservations → List Step → ℕ
used_in inside s [] = 0
used_in inside s (e ∷ es) = used_at inside s e + used_in inside (after s e) es

-- 1 if a new period begins
abbrev pub period_at : Step → ℕ
period_at Refill = 1
period_at _ = 0

-- the number of periods that begin
abbrev pub periods_in : List Step → ℕ
periods_in [] = 0
periods_in (e ∷ es) = period_at e + periods_in es

-- No group uses more in a window than the limits of the periods in it, its burst, a quantum for
-- each processor, and a slice. It is any set of leaves, and any may wake and be picked in any
-- order.
abbrev pub LimitsAreKept : Type 0
LimitsAreKept = (inside : ℕ → Bool) (s : Reservations) (g : Group) (before window : List Step)
    → AllByRecursion (λ q. q ≡ None) s.processors → s.slice ≤ s.quantum
    → g.left ≤ g.limit + g.burst → g.debt ≡ 0 → IsLimitedRun inside s g (before ++ window)
    → used_in inside (after_all s before) window
    ≤ (periods_in window + 1) * g.limit + g.burst + length s.processors * s.quantum + s.slice

-- ---- of a trace

-- whether the leaf, if there is one, is inside the group
abbrev pub inside_at : Option Account → Bool
inside_at None = false
inside_at (Some a) = a.is_inside

abbrev pub inside_of : Reservations → ℕ → Bool
inside_of s i = inside_at (slice_get s.accounts i)

-- the group, if its numbers have 64 bits
abbrev pub fitted : Group → Option Group
fitted g = if nat_lt g.left (2 ^ 64) && nat_lt g.debt (2 ^ 64) then Some g else None

-- whether an event that the rule allows keeps the limit
abbrev pub keeps_limit : Reservations → Group → Step → Bool
keeps_limit s g (Pick p i) = not (inside_of s i) || nat_lt g.debt g.left
keeps_limit s g (End p used remains) = not (nat_lt s.quantum used)
keeps_limit s g _ = true

-- The test tells exactly which event that the rule allows keeps the limit.
abbrev pub LimitIsTold : Type 0
LimitIsTold = (s : Reservations) (g : Group) (e : Step) → Allows s e
    → (keeps_limit s g e ≡ true) ↔ KeepsLimit (inside_of s) s g e

-- the rule allows each event, and each keeps the limit of the leaves inside, as a trace tells
abbrev pub IsToldToKeep : Reservations → Group → List Step → Type 0
IsToldToKeep s g [] = Unit {0}
IsToldToKeep s g (e ∷ es) =
    Allows s e × (keeps_limit s g e ≡ true)
    × IsToldToKeep (after s e) (group_after (inside_of s) s g e) es

-- A run that is told to keep a limit keeps that of the leaves inside at its beginning.
abbrev pub ToldRunsAreLimited : Type 0
ToldRunsAreLimited = (s : Reservations) (g : Group) (events : List Step)
    → IsToldToKeep s g events → IsLimitedRun (inside_of s) s g events
