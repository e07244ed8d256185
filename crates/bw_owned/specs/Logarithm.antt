-- Logarithms to the base 2, between fractions of one scale.
use Rattle.std.specs.Prelude.{ℕ, ◌+◌, ◌*◌, ◌^◌, ◌<◌, ◌≤◌}
use Rattle.bw_owned.specs.declared.logarithm.TheConstants.{SCALE_DIGITS}

-- The power of a number whose logarithm is a whole number of units, up to one of them: a unit is
-- 2^-36.
unfoldable pub at_scale : ℕ → ℕ
at_scale x = x ^ (2 ^ SCALE_DIGITS)

-- units that are at most the logarithm of x
abbrev pub IsLogarithmBelow : ℕ → ℕ → Type 0
IsLogarithmBelow units x = 2 ^ units ≤ at_scale x

-- units that are at least the logarithm of x
abbrev pub IsLogarithmAbove : ℕ → ℕ → Type 0
IsLogarithmAbove units x = at_scale x ≤ 2 ^ units

-- units that are less than two below the logarithm of x
abbrev pub IsLogarithmWithin : ℕ → ℕ → Type 0
IsLogarithmWithin units x = at_scale x < 2 ^ (units + 2)

-- units that are less than two above the logarithm of x
abbrev pub IsLogarithmNear : ℕ → ℕ → Type 0
IsLogarithmNear units x = 2 ^ units < at_scale x * 2 ^ 2
