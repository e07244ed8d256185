-- A sample of which some periods are done.
use Rattle.std.specs.Prelude.{◌≡◌, ℕ, ◌+◌, List, length}
use Rattle.bw_model.specs.declared.row.Row.{Row}
use Rattle.bw_model.specs.Host.{Shape}
use Rattle.bw_columns.specs.declared.walk.Walk.{Walk}
use Rattle.bw_columns.specs.Periods.{Period, AreSuccessive, sums_of}

-- some periods of so many are done, and `turn` has the last of them, those since the mark
pub record IsUnderWay (shape : Shape) (slice_us : ℕ) (asked : List Row) (mosts : List ℕ)
    (times : ℕ) (begin : List ℕ) (walk : Walk) : Type 0 where
  pub carries_long : length walk.carries.items ≡ length asked
  pub done : List Period
  pub count : length done + walk.left ≡ times
  pub successive : AreSuccessive shape asked mosts begin done walk.carries.items
  pub sums : walk.sums.items ≡ sums_of slice_us asked done
  pub turn : List Period
  pub turn_count : length turn + walk.left ≡ walk.mark_left
  pub turned : AreSuccessive shape asked mosts walk.mark.items turn walk.carries.items
  pub turn_sums : walk.turn.items ≡ sums_of slice_us asked turn
