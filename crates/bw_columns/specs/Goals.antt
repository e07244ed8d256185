-- Goals beside those of others, in columns of numbers.
use Rattle.std.specs.Prelude.{◌≡◌, ℕ, List, length}
use Rattle.bw_model.specs.Groups.{Groups}
use Rattle.bw_questions.specs.Beside.{AreGoalSums, AreHalvesKept}
use Rattle.bw_questions.specs.declared.from_root.measure.Measure.{Measure}
use Rattle.bw_columns.specs.declared.goals.GoalColumns.{GoalColumns}

-- the goals with halves of others, and what goals come to at each row
pub record AreGoalsTold (measure : Measure) (groups : Groups) (goals kept come_to : List ℕ)
    : Type 0 where
  pub halves : AreHalvesKept measure groups goals kept
  pub sums : AreGoalSums groups.rows goals come_to

-- one entry for each row in each column
pub record AreGoalsLong (found : GoalColumns) (count : ℕ) : Type 0 where
  pub kept : length found.kept.items ≡ count
  pub come_to : length found.come_to.items ≡ count
