-- The groups that limit a host's total, in the columns of an answer.
use Rattle.std.specs.Prelude.{◌≡◌, ℕ, List, ◌++◌, length, drop}
use Rattle.bw_model.specs.Groups.{Groups}
use Rattle.bw_columns.specs.Limited.{IsLimiting}

-- they stand at the front, and behind them what stood there
pub record IsListed (groups : Groups) (before after : List ℕ) (count rest : ℕ) : Type 0 where
  pub listed : List ℕ
  pub limiting : IsLimiting groups listed rest
  pub count_is : count ≡ length listed
  pub after_are : after ≡ listed ++ drop count before
