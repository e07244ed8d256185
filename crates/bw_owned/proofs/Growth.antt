-- Weights of shares grow with the shares, on the curve too.
use Rattle.std.proofs.Common.{ℕ, ◌+◌, ◌-◌, ◌*◌, ◌^◌, ◌<◌, ◌≤◌, ◌≡◌, arith, inl, inr, sym}
use Rattle.std.proofs.Common.{ap, ◌∙◌, zero, suc}
use Rattle.std.proofs.lemmas.Nat.{mul-le, mul-pow, pow-add}
use Rattle.std.proofs.lemmas.Bool.{cases_lt}
use Rattle.std.proofs.Math.Nat.{pow-le-pow_left, pow-lt-pow_left, pow-le-pow_right}
use Rattle.std.proofs.Math.Nat.{mul-le-mul_left, mul-le-mul_right, pow-suc, pow-zero}
use Rattle.std.proofs.Math.Pow.{pow-lt}
use Rattle.bw_owned.specs.declared.logarithm.TheConstants.{UNIT, SCALE_DIGITS}
use Rattle.bw_owned.specs.declared.shares.TheConstants.{MIN_SHARES, MAX_SHARES}
use Rattle.bw_owned.specs.Logarithm.{at_scale}
use Rattle.bw_owned.specs.Shares.{curve, height, IsLeastAbove, IsLogarithmicWeight}
use Rattle.bw_owned.specs.Shares.{least, default, greatest, between}
use Rattle.bw_owned.proofs.Squares.{double}

-- a greater number has a greater power
scale_le : (x y : ℕ) → x ≤ y → at_scale x ≤ at_scale y
unfolding at_scale
scale_le x y within = pow-le-pow_left within _

scale_lt : (x y : ℕ) → x < y → at_scale x < at_scale y
unfolding at_scale
scale_lt x y within = pow-lt-pow_left within (λ none. absurd (omega (arith, none)))

-- the power of a product
scale_product : (x y : ℕ) → at_scale (x * y) ≡ at_scale x * at_scale y
unfolding at_scale
scale_product x y = mul-pow x y _

-- exponents are in the order of their powers of 2
exponents_le : (i j : ℕ) → 2 ^ i ≤ 2 ^ j → i ≤ j
exponents_le i j within = elim (cases_lt j i) [
  | inl less ↦ let more : 2 ^ j < 2 ^ i = pow-lt less in absurd (omega (arith, within, more))
  | inr no_less ↦ no_less
]

exponents_lt : (i j : ℕ) → 2 ^ i < 2 ^ j → i < j
exponents_lt i j within = elim (cases_lt i j) [
  | inl less ↦ less
  | inr no_less ↦ let more : 2 ^ j ≤ 2 ^ i = pow-le-pow_right (omega arith) no_less in
      absurd (omega (arith, within, more))
]

-- the power of a power
pow_product : (x i j : ℕ) → (x ^ i) ^ j ≡ x ^ (i * j)
pow_product x i zero =
    let none : 0 ≡ i * 0 = omega arith in
    pow-zero (x ^ i) ∙ sym (pow-zero x) ∙ ap (λ (n : ℕ). x ^ n) none
pow_product x i (suc j) =
    let more : i * j + i ≡ i * suc j = omega arith in
    pow-suc (x ^ i) j ∙ ap (λ (n : ℕ). n * x ^ i) (pow_product x i j)
    ∙ sym (pow-add x (i * j) i) ∙ ap (λ (n : ℕ). x ^ n) more

scale_power : (k : ℕ) → at_scale (2 ^ k) ≡ 2 ^ (k * UNIT)
unfolding at_scale
scale_power k = pow_product 2 k UNIT

-- the logarithm of at most a power of 2, and of at least one
logarithm_le : (s a k : ℕ) → 2 ^ s ≤ at_scale a → a ≤ 2 ^ k → s ≤ k * UNIT
logarithm_le s a k below within =
    let scaled : at_scale a ≤ at_scale (2 ^ k) = scale_le a (2 ^ k) within in
    let power : at_scale (2 ^ k) ≡ 2 ^ (k * UNIT) = scale_power k in
    exponents_le s (k * UNIT) (omega (arith, below, scaled, power))

le_logarithm : (s a k : ℕ) → at_scale a ≤ 2 ^ s → 2 ^ k ≤ a → k * UNIT ≤ s
le_logarithm s a k above within =
    let scaled : at_scale (2 ^ k) ≤ at_scale a = scale_le (2 ^ k) a within in
    let power : at_scale (2 ^ k) ≡ 2 ^ (k * UNIT) = scale_power k in
    exponents_le (k * UNIT) s (omega (arith, above, scaled, power))

-- twice the logarithm is that of the square
square_below : (t x : ℕ) → 2 ^ t ≤ at_scale x → 2 ^ (2 * t) ≤ at_scale (x * x)
square_below t x below = rw (double t, scale_product x x)
    (mul-le (2 ^ t) (2 ^ t) (at_scale x) (at_scale x) below below)

square_above : (t x : ℕ) → at_scale x ≤ 2 ^ t → at_scale (x * x) ≤ 2 ^ (2 * t)
square_above t x above = rw (double t, scale_product x x)
    (mul-le (at_scale x) (at_scale x) (2 ^ t) (2 ^ t) above above)

one_power : (n : ℕ) → 1 ^ n ≡ 1
one_power zero = pow-zero 1
one_power (suc n) = pow-suc 1 n ∙ ap (λ (m : ℕ). m * 1) (one_power n)

scale_one : at_scale 1 ≡ 1
unfolding at_scale
scale_one = one_power (2 ^ SCALE_DIGITS)

-- the logarithm of shares, as it stands in the curve
abbrev part : ℕ → ℕ
part shares = shares * shares + 125 * UNIT * shares

part_le : (i j : ℕ) → i ≤ j → part i ≤ part j
part_le i j within =
    let squares : i * i ≤ j * j = mul-le i i j j within within in
    omega (arith, squares, within)

-- a weight is under no curve of no base
positive : (t s b : ℕ) → height t b < curve t s → 0 < t
positive zero s b under = absurd (omega (arith, under))
positive (suc t) s b under = omega arith

-- A weight under the curve of fewer shares is under the curve of more.
crossed : (t s b u r w : ℕ) → height t b < curve t s → curve u r ≤ height u w → t ≤ u → s ≤ r
    → w ≤ b → ⊥
crossed t s b u r w under on ten shares weight =
    let some : 0 < t = positive t s b under in
    let one : (height t b + 1) * u ≤ curve t s * u =
    mul-le-mul_right u (omega (arith, under)) in
    let other : curve u r * t ≤ height u w * t = mul-le-mul_right t on in
    let parts : (t * u) * part s ≤ (t * u) * part r = mul-le-mul_left (t * u) (part_le s r shares) in
    let weights : t * w ≤ u * b = mul-le t w u b ten weight in
    omega (arith, one, other, parts, weights, some, ten)

between_le : (a v b w : ℕ) → IsLeastAbove a v → IsLeastAbove b w → a ≤ b → v ≤ w
between_le a v b w one other within = elim (cases_lt w v) [
  | inl less ↦
      let ten_one : 2 ^ one.ten_least ≤ at_scale 10 = one.ten_below in
      let ten_other : at_scale 10 ≤ 2 ^ other.ten_most = other.ten_above in
      let shares_one : 2 ^ one.shares_least ≤ at_scale a = one.shares_below in
      let shares_other : at_scale b ≤ 2 ^ other.shares_most = other.shares_above in
      let shares : at_scale a ≤ at_scale b = scale_le a b within in
      let weight_one : at_scale (v - 1) ≤ 2 ^ one.before_most = one.before_above in
      let weight_other : 2 ^ other.weight_least ≤ at_scale w = other.weight_below in
      let weights : at_scale w ≤ at_scale (v - 1) = scale_le w (v - 1) (omega (arith, less)) in
      absurd (crossed one.ten_least one.shares_least one.before_most other.ten_most
      other.shares_most other.weight_least one.before_under other.on_or_above
      (exponents_le _ _ (omega (arith, ten_one, ten_other)))
      (exponents_le _ _ (omega (arith, shares_one, shares_other, shares)))
      (exponents_le _ _ (omega (arith, weight_one, weight_other, weights))))
  | inr no_less ↦ no_less
]

-- A point on the curve: a number of units `e` that is the logarithm of the weight `p` at most, where
-- the shares are at most those of the point.
point_above : (a v p e k : ℕ) (one : IsLeastAbove a v) → 2 ^ e ≤ at_scale p
    → one.shares_least ≤ k
    → one.ten_least * part k ≤ UNIT * UNIT * (612 * e + 126 * one.ten_least) → v ≤ p
point_above a v p e k one power shares point = elim (cases_lt p v) [
  | inl less ↦
      let weight_one : at_scale (v - 1) ≤ 2 ^ one.before_most = one.before_above in
      let weights : at_scale p ≤ at_scale (v - 1) = scale_le p (v - 1) (omega (arith, less)) in
      let units : e ≤ one.before_most =
      exponents_le e one.before_most (omega (arith, power, weight_one, weights)) in
      let parts : one.ten_least * part one.shares_least ≤ one.ten_least * part k =
      mul-le-mul_left one.ten_least (part_le one.shares_least k shares) in
      let under : height one.ten_least one.before_most < curve one.ten_least one.shares_least =
      one.before_under in
      absurd (omega (arith, units, parts, under, point))
  | inr no_less ↦ no_less
]

point_below : (b w p e k : ℕ) (other : IsLeastAbove b w) → at_scale p ≤ 2 ^ e
    → k ≤ other.shares_most
    → UNIT * UNIT * (612 * e + 126 * other.ten_most) ≤ other.ten_most * part k → p ≤ w
point_below b w p e k other power shares point = elim (cases_lt w p) [
  | inl less ↦
      let weight_other : 2 ^ other.weight_least ≤ at_scale w = other.weight_below in
      let weights : at_scale w < at_scale p = scale_lt w p less in
      let units : other.weight_least < e =
      exponents_lt other.weight_least e (omega (arith, power, weight_other, weights)) in
      let parts : other.ten_most * part k ≤ other.ten_most * part other.shares_most =
      mul-le-mul_left other.ten_most (part_le k other.shares_most shares) in
      let on : curve other.ten_most other.shares_most
      ≤ height other.ten_most other.weight_least = other.on_or_above in
      absurd (omega (arith, units, parts, on, point))
  | inr no_less ↦ no_less
]

-- the three points that the curve is made for
most_of_2 : (a v : ℕ) → IsLeastAbove a v → a ≤ 2 → v ≤ 1
most_of_2 a v one few =
    let shares : one.shares_least ≤ 1 * UNIT =
    logarithm_le one.shares_least a 1 one.shares_below few in
    let power : 2 ^ 0 ≤ at_scale 1 = omega (arith, scale_one) in
    point_above a v 1 0 UNIT one power (omega (arith, shares)) (omega arith)

most_of_1024 : (a v : ℕ) → IsLeastAbove a v → a ≤ 1024 → v ≤ 100
most_of_1024 a v one few =
    let shares : one.shares_least ≤ 10 * UNIT =
    logarithm_le one.shares_least a 10 one.shares_below few in
    point_above a v 100 (2 * one.ten_least) (10 * UNIT) one
    (square_below one.ten_least 10 one.ten_below) shares (omega arith)

most_of_262144 : (a v : ℕ) → IsLeastAbove a v → a ≤ 262144 → v ≤ 10000
most_of_262144 a v one few =
    let shares : one.shares_least ≤ 18 * UNIT =
    logarithm_le one.shares_least a 18 one.shares_below few in
    point_above a v 10000 (2 * (2 * one.ten_least)) (18 * UNIT) one
    (square_below (2 * one.ten_least) 100 (square_below one.ten_least 10 one.ten_below)) shares
    (omega arith)

least_of_2 : (b w : ℕ) → IsLeastAbove b w → 2 ≤ b → 1 ≤ w
least_of_2 b w other many =
    let shares : 1 * UNIT ≤ other.shares_most =
    le_logarithm other.shares_most b 1 other.shares_above many in
    let power : at_scale 1 ≤ 2 ^ 0 = omega (arith, scale_one) in
    point_below b w 1 0 UNIT other power (omega (arith, shares)) (omega arith)

least_of_1024 : (b w : ℕ) → IsLeastAbove b w → 1024 ≤ b → 100 ≤ w
least_of_1024 b w other many =
    let shares : 10 * UNIT ≤ other.shares_most =
    le_logarithm other.shares_most b 10 other.shares_above many in
    point_below b w 100 (2 * other.ten_most) (10 * UNIT) other
    (square_above other.ten_most 10 other.ten_above) shares (omega arith)

least_of_262144 : (b w : ℕ) → IsLeastAbove b w → 262144 ≤ b → 10000 ≤ w
least_of_262144 b w other many =
    let shares : 18 * UNIT ≤ other.shares_most =
    le_logarithm other.shares_most b 18 other.shares_above many in
    point_below b w 10000 (2 * (2 * other.ten_most)) (18 * UNIT) other
    (square_above (2 * other.ten_most) 100 (square_above other.ten_most 10 other.ten_above)) shares
    (omega arith)

-- weights on the curve are between those of the points around
at_least_1 : (b w : ℕ) → 2 ≤ b → IsLogarithmicWeight b w → 1 ≤ w
at_least_1 b w many (least shares few) = omega arith
at_least_1 b w many (default shares same) = omega arith
at_least_1 b w many (greatest shares more) = omega arith
at_least_1 b w many (between shares weight on) = least_of_2 shares weight on many

at_least_100 : (b w : ℕ) → 1024 ≤ b → IsLogarithmicWeight b w → 100 ≤ w
at_least_100 b w many (least shares few) = absurd (omega (arith, many, few))
at_least_100 b w many (default shares same) = omega arith
at_least_100 b w many (greatest shares more) = omega arith
at_least_100 b w many (between shares weight on) = least_of_1024 shares weight on many

at_least_10000 : (b w : ℕ) → 262144 ≤ b → IsLogarithmicWeight b w → 10000 ≤ w
at_least_10000 b w many (least shares few) = absurd (omega (arith, many, few))
at_least_10000 b w many (default shares same) = absurd (omega (arith, many, same))
at_least_10000 b w many (greatest shares more) = omega arith
at_least_10000 b w many (between shares weight on) = least_of_262144 shares weight on many

on_curve_le : (a v b w : ℕ) → IsLeastAbove a v → a ≤ b → b ≤ MAX_SHARES
    → IsLogarithmicWeight b w → v ≤ w
on_curve_le a v b w one within few (least shares small) =
    most_of_2 a v one (omega (arith, within, small))
on_curve_le a v b w one within few (default shares same) =
    most_of_1024 a v one (omega (arith, within, same))
on_curve_le a v b w one within few (greatest shares more) =
    most_of_262144 a v one (omega (arith, within, few))
on_curve_le a v b w one within few (between shares weight on) =
    between_le a v shares weight one on within

-- more shares have no lesser weight on the curve
pub logarithmic_le : (a v b w : ℕ) → MIN_SHARES ≤ a → a ≤ b → b ≤ MAX_SHARES
    → IsLogarithmicWeight a v → IsLogarithmicWeight b w → v ≤ w
logarithmic_le a v b w least_shares within few (least shares small) other =
    at_least_1 b w (omega (arith, least_shares, within)) other
logarithmic_le a v b w least_shares within few (default shares same) other =
    at_least_100 b w (omega (arith, same, within)) other
logarithmic_le a v b w least_shares within few (greatest shares more) other =
    at_least_10000 b w (omega (arith, more, within)) other
logarithmic_le a v b w least_shares within few (between shares weight on) other =
    on_curve_le shares weight b w on within few other

-- the weight of shares in their range is 1 to 10000
pub logarithmic_range : (a v : ℕ) → MIN_SHARES ≤ a → a ≤ MAX_SHARES → IsLogarithmicWeight a v
    → (1 ≤ v) × (v ≤ 10000)
logarithmic_range a v many few weight = (
  at_least_1 a v many weight,
  logarithmic_le a v 262144 10000 many few (omega arith) weight (greatest 262144 (omega arith)),
)
