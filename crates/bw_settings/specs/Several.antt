-- Numbers that owners set, each for a goal of a group and the least beside the others.
use Rattle.std.specs.Prelude.{◌≡◌, ◌⊎◌, ℕ, ◌<◌, ◌≤◌, List, Bool, true, ◌&&◌, length, slice_index}
use Rattle.std.specs.Prelude.{slice_set, sum_by, if◌then◌else◌}
use Rattle.std.specs.List.{range_with_len}
use Rattle.bw_model.specs.declared.row.Row.{Row}
use Rattle.bw_model.specs.Groups.{Groups, is_under}
use Rattle.bw_questions.specs.Gets.{Gets}
use Rattle.bw_questions.specs.declared.from_root.measure.Measure.{Measure}
use Rattle.bw_settings.specs.declared.goals.Goals.{Goals}
use Rattle.bw_settings.specs.declared.several.Settling.{Settling}
use Rattle.bw_settings.specs.declared.several.Settling.TheVariants.{Settled, Stuck, Unsettled}
use Rattle.bw_settings.specs.declared.several.Settling.TheVariants as settling
use Rattle.bw_settings.specs.declared.pass.Pass.{Pass}
use Rattle.bw_settings.specs.declared.pass.Pass.TheVariants as pass
use Rattle.bw_settings.specs.declared.least.Setting.{Setting}
use Rattle.bw_settings.specs.declared.least.Setting.TheVariants as setting
use Rattle.bw_settings.specs.Following.{Follows, number_at, IsNumbered, IsUntold}

-- The measure and the columns of goals: each one's group and amount, the row whose number an owner
-- sets for it, the highest row that sums the number, and the first and the last number.
pub record Aims : Type 0 where
  pub measure : Measure
  pub groups : List ℕ
  pub amounts : List ℕ
  pub owners : List ℕ
  pub tops : List ℕ
  pub firsts : List ℕ
  pub lasts : List ℕ

-- the program's columns, as lists
abbrev pub aims_of : Goals → Aims
aims_of goals = record {
  measure = goals.measure;
  groups = goals.groups.now;
  amounts = goals.amounts.now;
  owners = goals.owners.now;
  tops = goals.tops.now;
  firsts = goals.firsts.now;
  lasts = goals.lasts.now;
}

-- a goal whose group is a row, and whose owner's row is the group, above it or below it
pub record IsOnWay (rows : List Row) (group owner : ℕ) : Type 0 where
  pub group_in : group < length rows
  pub owner_in : owner < length rows
  pub way : (is_under rows owner group ≡ true) ⊎ (is_under rows group owner ≡ true)

-- as many entries in each column
pub record AreAsMany (aims : Aims) : Type 0 where
  pub groups : length aims.groups ≡ length aims.owners
  pub amounts : length aims.amounts ≡ length aims.owners
  pub tops : length aims.tops ≡ length aims.owners
  pub firsts : length aims.firsts ≡ length aims.owners
  pub lasts : length aims.lasts ≡ length aims.owners

-- goals, each on its owner's way
pub record AreAims (rows : List Row) (aims : Aims) : Type 0 where
  pub as_many : AreAsMany aims
  pub ways : (k : ℕ) → k < length aims.owners
      → IsOnWay rows (slice_index aims.groups k) (slice_index aims.owners k)

-- whether a row sums a goal's number: the owner's row, and those above it up to the highest
abbrev pub counts_in : List Row → Aims → ℕ → ℕ → Bool
counts_in rows aims h k =
    is_under rows h (slice_index aims.owners k) && is_under rows (slice_index aims.tops k) h

-- the part of one goal's number that a row has
abbrev pub part_in : List Row → Aims → List ℕ → ℕ → ℕ → ℕ
part_in rows aims numbers h k =
    (if counts_in rows aims h k then slice_index numbers k else 0)

-- the sum of all numbers that a row has
abbrev pub summed : List Row → Aims → List ℕ → ℕ → ℕ
summed rows aims numbers h =
    sum_by (part_in rows aims numbers h) (range_with_len 0 (length aims.owners))

-- the number of a row for the numbers that owners set
abbrev pub number_with : List Row → Follows → Aims → List ℕ → ℕ → ℕ
number_with rows follows aims numbers h = number_at follows (summed rows aims numbers h) h

-- with the numbers of the owners a goal's group gets its amount
pub record IsMet (groups : Groups) (follows : Follows) (aims : Aims) (numbers : List ℕ) (k : ℕ)
    : Type 0 where
  pub others : Groups
  pub numbered : IsNumbered groups follows.formulas (number_with groups.rows follows aims numbers)
      others
  pub reached : Gets aims.measure others (slice_index aims.groups k) (slice_index aims.amounts k)

-- the number of a goal is within its range and meets it, and no lesser one of the range does, the
-- others as they are
pub record IsLeastBeside (groups : Groups) (follows : Follows) (aims : Aims) (numbers : List ℕ)
    (k : ℕ) : Type 0 where
  pub first : slice_index aims.firsts k ≤ slice_index numbers k
  pub last : slice_index numbers k ≤ slice_index aims.lasts k
  pub met : IsMet groups follows aims numbers k
  pub least : (lesser : ℕ) → slice_index aims.firsts k ≤ lesser → lesser < slice_index numbers k
      → ¬ IsMet groups follows aims (slice_set numbers k lesser) k

-- each goal's number is the least beside the others
abbrev pub AreSettled : Groups → Follows → Aims → List ℕ → Type 0
AreSettled groups follows aims numbers =
    (k : ℕ) → k < length aims.owners → IsLeastBeside groups follows aims numbers k

-- no number of a goal's range meets it, the others as they are
pub record IsStuck (groups : Groups) (follows : Follows) (aims : Aims) (numbers : List ℕ) (k : ℕ)
    : Type 0 where
  pub within : k < length aims.owners
  pub none : (number : ℕ) → slice_index aims.firsts k ≤ number → number ≤ slice_index aims.lasts k
      → ¬ IsMet groups follows aims (slice_set numbers k number) k

-- the least number of one goal, the others as they are
abbrev pub IsLeastNow : Groups → Follows → Aims → List ℕ → ℕ → Setting → Type 0
IsLeastNow groups follows aims numbers k (setting.Least number) =
    IsLeastBeside groups follows aims (slice_set numbers k number) k
IsLeastNow groups follows aims numbers k setting.NoNumber =
    IsStuck groups follows aims numbers k
IsLeastNow groups follows aims numbers k setting.Untold = IsUntold

-- one pass over the goals
abbrev pub IsPassed : Groups → Follows → Aims → List ℕ → Pass → Type 0
IsPassed groups follows aims numbers pass.Same = AreSettled groups follows aims numbers
IsPassed groups follows aims numbers pass.Changed = Unit
IsPassed groups follows aims numbers (pass.Stuck k) = IsStuck groups follows aims numbers k
IsPassed groups follows aims numbers pass.Untold = IsUntold

-- numbers that are settled, or a goal that is stuck beside them
abbrev pub IsSettling : Groups → Follows → Aims → List ℕ → Settling → Type 0
IsSettling groups follows aims numbers Settled = AreSettled groups follows aims numbers
IsSettling groups follows aims numbers (Stuck k) = IsStuck groups follows aims numbers k
IsSettling groups follows aims numbers Unsettled = Unit
IsSettling groups follows aims numbers settling.Untold = IsUntold
