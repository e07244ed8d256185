-- Sights of the lock, each of one load of a word.
use Rattle.std.specs.Prelude.{ℕ}

-- the ticket that a look found served
pub record Sighted : Type 0 where
  pub served : ℕ

-- sight of a seat that has left: its own ticket, and the next one to be drawn
pub record LookedBehind : Type 0 where
  pub left : ℕ
  pub next : ℕ
