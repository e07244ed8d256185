-- Readings of groups that tell exactly what these would have used.
use Rattle.std.specs.Prelude.{◌≡◌, ℕ, ◌<◌, ◌==◌, List, Bool, true, false, length, if◌then◌else◌}
use Rattle.bw_model.specs.Groups.{Groups, IsInstance, demand_of, is_leaf}
use Rattle.bw_model.specs.Host.{Shape}
use Rattle.bw_model.specs.declared.limits.TheConstants.{MAX_DEMAND}
use Rattle.bw_questions.specs.declared.held.reading.RoundTimes.{RoundTimes}
use Rattle.bw_questions.specs.declared.held.tasks.TaskSums.{TaskSums}
use Rattle.bw_questions.specs.HeldRule.{is_hungry}
use Rattle.bw_questions.specs.Hunger.{used_slices, asked_slices}
use Rattle.bw_questions.specs.Reading.{IsSameButDemands, IsTrueReading}

-- whether a group asks for everything
abbrev pub is_for_all : Shape → RoundTimes → TaskSums → Bool
is_for_all shape times tasks = asked_slices shape times tasks == MAX_DEMAND

-- the slices that the rule is handed of a leaf: what it used with a flag if it asks for everything,
-- else what it asks for
abbrev pub handed : Shape → RoundTimes → TaskSums → ℕ
handed shape times tasks =
    if is_for_all shape times tasks then used_slices shape times
    else asked_slices shape times tasks

-- A reading for the rule, from the round of each leaf.
pub record IsHanded (wants used : Groups) (flags : List Bool) (times : ℕ → RoundTimes)
    (tasks : ℕ → TaskSums) : Type 0 where
  pub valid : IsInstance used
  pub same : IsSameButDemands wants used
  pub demands : (l : ℕ) → l < length wants.rows → is_leaf wants.rows l ≡ true
      → demand_of used.rows l ≡ handed used.shape (times l) (tasks l)
  pub marks : (l : ℕ) → l < length wants.rows → is_leaf wants.rows l ≡ true
      → is_hungry flags l ≡ is_for_all used.shape (times l) (tasks l)

-- Each leaf wants what it asks for. One that asks for everything wants more than it used.
pub record AreExact (wants : Groups) (shape : Shape) (times : ℕ → RoundTimes) (tasks : ℕ → TaskSums)
    : Type 0 where
  pub some : (l : ℕ) → l < length wants.rows → is_leaf wants.rows l ≡ true
      → is_for_all shape (times l) (tasks l) ≡ false
      → demand_of wants.rows l ≡ asked_slices shape (times l) (tasks l)
  pub all : (l : ℕ) → l < length wants.rows → is_leaf wants.rows l ≡ true
      → is_for_all shape (times l) (tasks l) ≡ true
      → used_slices shape (times l) < demand_of wants.rows l

-- A reading whose groups want what they ask for is true.
abbrev pub ExactReadingsAreTrue : Type 0
ExactReadingsAreTrue = (wants used : Groups) (flags : List Bool) (times : ℕ → RoundTimes)
    (tasks : ℕ → TaskSums) → IsHanded wants used flags times tasks
    → AreExact wants used.shape times tasks → IsTrueReading wants used flags
