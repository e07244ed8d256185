-- The count of a search's work.
use Rattle.std.specs.Prelude.{ℕ}

-- the work of splits: the levels tested on all children, and the slices given one by one after the
-- search
pub record Done : Type 0 where
  pub rounds : ℕ
  pub picks : ℕ
