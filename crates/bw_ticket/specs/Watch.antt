-- The counts of a waiting seat since it last slept.
use Rattle.std.specs.Prelude.{ℕ}

pub record Watch : Type 0 where
  -- its looks, spins and yields
  pub steps : ℕ
  -- of them the looks that may find its own ticket served
  pub looks : ℕ
