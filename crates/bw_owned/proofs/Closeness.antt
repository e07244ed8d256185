-- Squares that are rounded 36 times stay close: each part of an error grows to at most three.
use Rattle.std.proofs.Common.{ℕ, ◌+◌, ◌-◌, ◌*◌, ◌/◌, ◌^◌, ◌<◌, ◌≤◌, ◌≡◌, arith}
use Rattle.std.proofs.lemmas.Nat.{mul-le}
use Rattle.std.proofs.lemmas.Grind.{pow_more}
use Rattle.std.proofs.Math.Nat.{mul-le-mul_right}
use Rattle.std.proofs.Math.Nat.{pow-le-pow_right, one-le-pow}
use Rattle.bw_owned.specs.declared.logarithm.TheConstants.{ONE, TWO}

-- parts in ONE by which i roundings may be off
abbrev pub parts : ℕ → ℕ
parts i = 4 * 3 ^ i

pub parts_more : (i : ℕ) → parts (i + 1) ≡ 3 * parts i
parts_more i = let next : 3 ^ (i + 1) ≡ 3 ^ i * 3 = pow_more 3 i in omega (arith, next)

pub parts_least : (i : ℕ) → 4 ≤ parts i
parts_least i = let one : 1 ≤ 3 ^ i = one-le-pow i 3 (omega arith) in
    omega (arith, one)

pub parts_few : (i : ℕ) → i < 36 → 4 * parts i ≤ ONE
parts_few i few = let most : 3 ^ i ≤ 3 ^ 35 = pow-le-pow_right (omega arith) {i = i} {j = 35} (omega (arith, few)) in
    omega (arith, most)

-- a quarter at most, squared
quarter : (r : ℕ) → 4 * r ≤ ONE → 4 * (r * r) ≤ ONE * r
quarter r few = let scaled : (4 * r) * r ≤ ONE * r = mul-le-mul_right r few in
    omega (arith, scaled)

pub grows_below : (r : ℕ) → 4 ≤ r → 4 * r ≤ ONE
    → (ONE + 1) * ((ONE + r) * (ONE + r)) ≤ ONE * ONE * (ONE + 3 * r)
grows_below r least few = let small = quarter r few in omega (arith, small, least)

pub grows_above : (r : ℕ) → 4 ≤ r → 4 * r ≤ ONE
    → (ONE + 2) * ((ONE + r) * (ONE + r)) ≤ ONE * ONE * (ONE + 3 * r)
grows_above r least few = let small = quarter r few in omega (arith, small, least)

-- a quotient that is rounded down
pub below_quotient : (s : ℕ) → ONE ≤ s / ONE → s ≤ s / ONE * (ONE + 1)
below_quotient s least = omega (arith, least)

pub below_half : (s : ℕ) → TWO ≤ s / ONE → s ≤ 2 * (s / ONE / 2 * (ONE + 1))
below_half s least = omega (arith, least)

-- a quotient that is rounded up
pub above_quotient : (s : ℕ) → ONE * ONE ≤ s
    → (s + (ONE - 1)) / ONE * (ONE * ONE) ≤ s * (ONE + 2)
above_quotient s least = omega (arith, least)

pub above_half : (s : ℕ) → ONE * ONE ≤ s
    → 2 * (((s + (ONE - 1)) / ONE + 1) / 2 * (ONE * ONE)) ≤ s * (ONE + 2)
above_half s least = omega (arith, least)

-- one rounding more, of a number that is at most the power
pub closer_below : (v m p n q r : ℕ) → 4 ≤ r → 4 * r ≤ ONE
    → ONE * v * ONE ≤ m * (ONE + r) * p → m * m * (p * p) ≤ n * (ONE + 1) * q
    → ONE * (v * v) * ONE ≤ n * (ONE + 3 * r) * q
closer_below v m p n q r least few was near =
    let squares = mul-le (ONE * v * ONE) (ONE * v * ONE) (m * (ONE + r) * p) (m * (ONE + r) * p)
    was was in
    let scaled : (m * m * (p * p)) * ((ONE + r) * (ONE + r))
    ≤ (n * (ONE + 1) * q) * ((ONE + r) * (ONE + r)) =
    mul-le-mul_right ((ONE + r) * (ONE + r)) near in
    let grown : ((ONE + 1) * ((ONE + r) * (ONE + r))) * (n * q)
    ≤ (ONE * ONE * (ONE + 3 * r)) * (n * q) =
    mul-le-mul_right (n * q) (grows_below r least few) in
    omega (arith, squares, scaled, grown)

-- one rounding more, of a number that is at least the power
pub closer_above : (v m p n q r : ℕ) → 4 ≤ r → 4 * r ≤ ONE
    → m * p * ONE ≤ ONE * v * (ONE + r) → n * (ONE * ONE) * q ≤ m * m * (ONE + 2) * (p * p)
    → n * q * ONE ≤ ONE * (v * v) * (ONE + 3 * r)
closer_above v m p n q r least few was near =
    let squares = mul-le (m * p * ONE) (m * p * ONE) (ONE * v * (ONE + r)) (ONE * v * (ONE + r))
    was was in
    let grown : ((ONE + 2) * ((ONE + r) * (ONE + r))) * (v * v)
    ≤ (ONE * ONE * (ONE + 3 * r)) * (v * v) =
    mul-le-mul_right (v * v) (grows_above r least few) in
    omega (arith, squares, near, grown)

-- after 36 roundings
pub close_below : (v m p : ℕ) → 0 < p → m < TWO → ONE * v * ONE ≤ m * (ONE + parts 36) * p
    → v < p * 4
close_below v m p some most near =
    let scaled : m * p ≤ (TWO - 1) * p = mul-le-mul_right p (omega (arith, most)) in
    omega (arith, scaled, near, some)

pub close_above : (v m p : ℕ) → 0 < v → ONE ≤ m → m * p * ONE ≤ ONE * v * (ONE + parts 36)
    → p * 2 < v * 4
close_above v m p some least near =
    let scaled : ONE * p ≤ m * p = mul-le-mul_right p least in
    omega (arith, scaled, near, some)

-- before the first
pub begun_below : (x m p : ℕ) → ONE ≤ m → ONE * x ≤ (m + 1) * p → ONE * x * ONE ≤ m * (ONE + 4) * p
begun_below x m p least near =
    let scaled : ONE * p ≤ m * p = mul-le-mul_right p least in
    omega (arith, scaled, near)

pub begun_above : (x m p : ℕ) → ONE ≤ m → m * p ≤ ONE * x → (m + 1) * p * ONE ≤ ONE * x * (ONE + 4)
begun_above x m p least near =
    let scaled : ONE * p ≤ m * p = mul-le-mul_right p least in
    omega (arith, scaled, near)
