-- Weights of `cpu.shares`, as container runtimes convert them.
use Rattle.std.specs.Prelude.{◌≡◌, ℕ, ◌+◌, ◌-◌, ◌*◌, ◌/◌, ◌<◌, ◌≤◌, ◌⊎◌, min, max}
use Rattle.bw_model.specs.declared.limits.TheConstants.{MIN_WEIGHT, MAX_WEIGHT}
use Rattle.bw_owned.specs.declared.logarithm.TheConstants.{UNIT}
use Rattle.bw_owned.specs.declared.shares.TheConstants.{MIN_SHARES, MAX_SHARES, DEFAULT_SHARES}
use Rattle.bw_owned.specs.declared.shares.TheConstants.{DEFAULT_WEIGHT}
use Rattle.bw_owned.specs.Logarithm.{IsLogarithmBelow, IsLogarithmAbove}
use Rattle.bw_owned.specs.Logarithm.{IsLogarithmWithin, IsLogarithmNear}

-- shares within the range of `cpu.shares`
abbrev pub bounded : ℕ → ℕ
bounded shares = min (max shares MIN_SHARES) MAX_SHARES

-- the weight on the line from 2 shares and weight 1 to 262144 shares and weight 10000, rounded down
abbrev pub linear_weight : ℕ → ℕ
linear_weight shares =
    MIN_WEIGHT
    + (bounded shares - MIN_SHARES) * (MAX_WEIGHT - MIN_WEIGHT) / (MAX_SHARES - MIN_SHARES)

-- the logarithm of a weight on the curve, times 612 units² and the logarithm of 10: with l for the
-- logarithm of the shares it is l² + 125 l - 126, of which the last term is on the other side
abbrev pub curve : ℕ → ℕ → ℕ
curve ten shares = ten * (shares * shares + 125 * UNIT * shares)

-- the logarithm of a weight, as it is compared with the curve
abbrev pub height : ℕ → ℕ → ℕ
height ten weight = UNIT * UNIT * (612 * weight + 126 * ten)

-- The logarithms of 10, of the shares, of a weight and of the weight before it, enclosed so
-- closely that they show which one is the least weight on or above the curve.
pub record IsLeastAbove (shares weight : ℕ) : Type 0 where
  pub ten_most : ℕ
  pub ten_least : ℕ
  pub shares_most : ℕ
  pub shares_least : ℕ
  pub weight_least : ℕ
  pub before_most : ℕ
  pub ten_below : IsLogarithmBelow ten_least 10
  pub ten_above : IsLogarithmAbove ten_most 10
  pub shares_below : IsLogarithmBelow shares_least shares
  pub shares_above : IsLogarithmAbove shares_most shares
  pub weight_below : IsLogarithmBelow weight_least weight
  pub before_above : IsLogarithmAbove before_most (weight - 1)
  pub on_or_above : curve ten_most shares_most ≤ height ten_most weight_least
  pub before_under : height ten_least before_most < curve ten_least shares_least

-- A weight so near the curve that logarithms, enclosed to less than two units, do not tell on which
-- side it is. The least weight is not shown to be under the curve, nor the greatest to be on it.
pub record IsUntold (shares : ℕ) : Type 0 where
  pub weight : ℕ
  pub ten_most : ℕ
  pub ten_least : ℕ
  pub shares_most : ℕ
  pub shares_least : ℕ
  pub ten_near : IsLogarithmNear ten_most 10
  pub ten_within : IsLogarithmWithin ten_least 10
  pub shares_near : IsLogarithmNear shares_most shares
  pub shares_within : IsLogarithmWithin shares_least shares
  pub under : (weight ≡ MIN_WEIGHT) ⊎ ((units : ℕ) × IsLogarithmWithin units weight
      × (height ten_most units < curve ten_most shares_most))
  pub on : (weight ≡ MAX_WEIGHT) ⊎ ((units : ℕ) × IsLogarithmNear units weight
      × (curve ten_least shares_least ≤ height ten_least units))

-- The weight on the curve through 2 shares and weight 1, 1024 and 100, 262144 and 10000, rounded
-- up: 10 to the power of (l² + 125 l) / 612 - 7 / 34, where l is the logarithm of the shares to
-- the base 2.
pub data IsLogarithmicWeight : ℕ → ℕ → Type 0 where
  least : (shares : ℕ) → shares ≤ MIN_SHARES → IsLogarithmicWeight shares MIN_WEIGHT
  default : (shares : ℕ) → shares ≡ DEFAULT_SHARES → IsLogarithmicWeight shares DEFAULT_WEIGHT
  greatest : (shares : ℕ) → MAX_SHARES ≤ shares → IsLogarithmicWeight shares MAX_WEIGHT
  between : (shares weight : ℕ) → IsLeastAbove shares weight → IsLogarithmicWeight shares weight
