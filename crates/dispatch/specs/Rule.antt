-- The rule of the dispatcher: its state, the events that the rule allows, and the state after each.
use Rattle.std.specs.Prelude.{◌≡◌, ℕ, ◌+◌, ◌-◌, ◌*◌, ◌/◌, ◌<◌, ◌≤◌, ◌^◌, ◌&&◌, ◌||◌}
use Rattle.std.specs.Prelude.{nat_lt, min, max, Bool, List, [], ◌∷◌, length, get_or, Option}
use Rattle.std.specs.Prelude.{None, Some, slice_get, slice_set, if◌then◌else◌, Result, Ok, Err}
use Rattle.dispatch.specs.declared.leaves.Leaf.{Leaf}
use Rattle.dispatch.specs.declared.events.Event.{Event}
use Rattle.dispatch.specs.declared.events.Event.TheVariants.{Wake, Pick, End}
use Rattle.dispatch.specs.declared.events.Refusal.{Refusal}
use Rattle.dispatch.specs.declared.events.Refusal.TheVariants as refusals

-- the slice, the leaves, and the leaf of the task that each processor runs, if it runs one
pub record DispatchState : Type 0 where
  pub slice : ℕ
  pub leaves : List Leaf
  pub processors : List (Option ℕ)

-- a leaf of this amount, before its first task
abbrev pub new_leaf : ℕ → Leaf
new_leaf a = record { amount = a; charged = 0; used = 0; waiting = 0; running = 0 }

-- the leaf at an index, or one of no amount
abbrev pub leaf_at : DispatchState → ℕ → Leaf
leaf_at s i = get_or s.leaves i (new_leaf 0)

-- whether the leaf has a task that waits or runs
abbrev pub has_tasks : Leaf → Bool
has_tasks l = nat_lt 0 l.waiting || nat_lt 0 l.running

-- whether the clock of m, its charge over its amount, is less than that of l
abbrev pub is_behind : Leaf → Leaf → Bool
is_behind l m = nat_lt (m.charged * l.amount) (l.charged * m.amount)

-- whether m has a waiting task and is behind l
abbrev pub waits_behind : Leaf → Leaf → Bool
waits_behind l m = nat_lt 0 m.waiting && is_behind l m

-- the lesser of a number and another, if there is another
abbrev pub at_most : Option ℕ → ℕ → ℕ
at_most None n = n
at_most (Some m) n = min m n

-- the charge of a leaf, without a slice for each task that still runs
abbrev pub settled : ℕ → Leaf → ℕ
settled slice l = l.charged - slice * l.running

-- the clock of all, as a charge to a leaf of this amount, rounded down: the least of the settled
-- clocks of the leaves that have tasks, and of one that is known before
abbrev pub level_from : Option ℕ → ℕ → ℕ → List Leaf → Option ℕ
level_from known slice a [] = known
level_from known slice a (l ∷ ls) =
    level_from
    (if has_tasks l then Some (at_most known (a * settled slice l / l.amount)) else known)
    slice a ls

abbrev pub level : ℕ → ℕ → List Leaf → Option ℕ
level slice a ls = level_from None slice a ls

-- the greatest clock, as a charge to a leaf of this amount, rounded down: of all leaves, and of one
-- that is known before
abbrev pub greatest_from : ℕ → ℕ → List Leaf → ℕ
greatest_from known a [] = known
greatest_from known a (l ∷ ls) = greatest_from (max known (a * l.charged / l.amount)) a ls

abbrev pub greatest : ℕ → List Leaf → ℕ
greatest a ls = greatest_from 0 a ls

-- a charge lifted to the clock of all, or to the greatest clock if no leaf has a task
abbrev pub lifted : ℕ → Option ℕ → ℕ → ℕ
lifted charged None top = max charged top
lifted charged (Some l) top = max charged l

-- the leaf after tasks of it wake: its clock is lifted only if it had no task
abbrev pub woken : ℕ → List Leaf → ℕ → Leaf → Leaf
woken slice ls tasks l = record l {
  charged =
      if has_tasks l then l.charged
      else lifted l.charged (level slice l.amount ls) (greatest l.amount ls);
  waiting = l.waiting + tasks;
}

-- the leaf after a task of it is picked: a slice is charged
abbrev pub picked : ℕ → Leaf → Leaf
picked slice l = record l {
  charged = l.charged + slice;
  waiting = l.waiting - 1;
  running = l.running + 1;
}

-- the leaf after a task of it ends its run: what it did not use of the slice is given back
abbrev pub ended : ℕ → ℕ → Bool → Leaf → Leaf
ended slice used remains l = record l {
  charged = l.charged + used - slice;
  used = l.used + used;
  waiting = l.waiting + (if remains then 1 else 0);
  running = l.running - 1;
}

-- the state with another leaf at an index
abbrev pub with_leaf : DispatchState → ℕ → Leaf → DispatchState
with_leaf s i l = record s { leaves = slice_set s.leaves i l }

-- the state after a task of the leaf is picked for the processor
abbrev pub state_picked : DispatchState → ℕ → ℕ → DispatchState
state_picked s p i = record s {
  leaves = slice_set s.leaves i (picked s.slice (leaf_at s i));
  processors = slice_set s.processors p (Some i);
}

-- the state after the task on the processor ends its run, by what the processor runs
abbrev pub state_ended : DispatchState → ℕ → ℕ → Bool → Option (Option ℕ) → DispatchState
state_ended s p used remains (Some (Some i)) = record s {
  leaves = slice_set s.leaves i (ended s.slice used remains (leaf_at s i));
  processors = slice_set s.processors p None;
}
state_ended s p used remains (Some None) = s
state_ended s p used remains None = s

-- the state after an event that is allowed
abbrev pub after : DispatchState → Event → DispatchState
after s (Wake i tasks) = with_leaf s i (woken s.slice s.leaves tasks (leaf_at s i))
after s (Pick p i) = state_picked s p i
after s (End p used remains) = state_ended s p used remains (slice_get s.processors p)

-- The leaf has a waiting task, and no leaf that has one has a lesser clock.
pub record IsLeast (ls : List Leaf) (i : ℕ) : Type 0 where
  pub known : i < length ls
  pub waits : 0 < (get_or ls i (new_leaf 0)).waiting
  pub least : (k : ℕ) → 0 < (get_or ls k (new_leaf 0)).waiting
      → (get_or ls i (new_leaf 0)).charged * (get_or ls k (new_leaf 0)).amount
      ≤ (get_or ls k (new_leaf 0)).charged * (get_or ls i (new_leaf 0)).amount

-- no leaf has a waiting task
abbrev pub NoneWaits : List Leaf → Type 0
NoneWaits ls = (k : ℕ) → (get_or ls k (new_leaf 0)).waiting ≡ 0

-- The rule allows a pick: of a waiting leaf with the least clock, for a free processor.
pub record MayPick (s : DispatchState) (p i : ℕ) : Type 0 where
  pub free : slice_get s.processors p ≡ Some None
  pub leaf : IsLeast s.leaves i

-- the processor runs a task of a leaf
pub record Runs (s : DispatchState) (p : ℕ) : Type 0 where
  pub leaf : ℕ
  pub runs : slice_get s.processors p ≡ Some (Some leaf)
  pub known : leaf < length s.leaves

-- the rule allows the event: tasks wake and end as they like
abbrev pub Allows : DispatchState → Event → Type 0
Allows s (Wake i tasks) = i < length s.leaves
Allows s (Pick p i) = MayPick s p i
Allows s (End p used remains) = Runs s p

infixl 10 ◌>>=◌
abbrev pub ◌>>=◌ : {A B : Type 0} → Result A Refusal → (A → Result B Refusal) → Result B Refusal
(Ok x) >>= f = f x
(Err r) >>= f = Err r

-- a number below 2^64
abbrev pub number : ℕ → Result ℕ Refusal
number n = if nat_lt n (2 ^ 64) then Ok n else Err refusals.TooGreat

-- a leaf after a run of it, or the first refusal
abbrev pub leaf_ended : ℕ → ℕ → Bool → Option Leaf → Result Leaf Refusal
leaf_ended slice used remains None = Err refusals.UnknownLeaf
leaf_ended slice used remains (Some l) = do
  _ ← number (ended slice used remains l).charged
  _ ← number (ended slice used remains l).used
  _ ← number (ended slice used remains l).waiting
  Ok (ended slice used remains l)

-- a result without its value
abbrev pub without_value : {A : Type 0} → Result A Refusal → Result (Unit {0}) Refusal
without_value (Ok l) = Ok tt
without_value (Err r) = Err r
