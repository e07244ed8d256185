-- Weights that are written for limits.
use Rattle.std.proofs.Common.{◌≡◌, ℕ, ◌+◌, ◌-◌, ◌*◌, ◌/◌, ◌<◌, ◌≤◌, refl, ap, ◌∙◌, arith, inl, inr}
use Rattle.std.proofs.Common.{mul-le-mul_left}
use Rattle.std.specs.Prelude.{max, min}
use Rattle.std.proofs.lemmas.Bool.{cases_lt}
use Rattle.std.proofs.lemmas.Nat.{le-div}
use Rattle.std.proofs.Math.Nat.{div-mul-le_self, mul-le-mul_right, one-le-mul}
use Rattle.bw_model.specs.Host.{Shape, IsHost, slices_per_processor}
use Rattle.bw_questions.specs.Written.{slices_of_tasks, weight_of_limit, weight_of_part}
use Rattle.bw_laws.specs.Weights.{IsNearPart, WeightsGiveLimits}
use Rattle.bw_laws.proofs.Quotients.{div-cross, div-above, div-le}

-- the weight before it is cut, from what 1.01 of the whole is above the part
abbrev uncut : ℕ → ℕ → ℕ
uncut amount rest = (20000 * amount + rest) / (2 * rest)

-- what the part leaves of 1.01 of the whole, in hundredths
abbrev rest_of : ℕ → ℕ → ℕ
rest_of amount most = 101 * most - 100 * amount

weight_is : (amount most : ℕ)
    → weight_of_part amount most ≡ max 1 (min 10000 (uncut amount (rest_of amount most)))
weight_is amount most = refl

part_taken : (amount most : ℕ)
    → (1 ≤ weight_of_part amount most) × (weight_of_part amount most ≤ 10000)
part_taken amount most = (omega arith, omega arith)

uncut_le : (amount most rest : ℕ) → 1 ≤ most → amount ≤ most → rest + 100 * amount ≡ 101 * most
    → uncut amount rest ≤ 10000
uncut_le amount most rest some within e =
    div-le (20000 * amount + rest) (2 * rest) 10000 (omega (arith, some, within, e))
    (omega (arith, some, within, e))

near_uncut : (amount most rest weight : ℕ) → 1 ≤ most → amount ≤ most
    → rest + 100 * amount ≡ 101 * most → weight ≡ max 1 (uncut amount rest)
    → IsNearPart amount most weight
near_uncut amount most rest weight some within e is =
    let above : 0 < 2 * rest = omega (arith, some, within, e) in
    let times : weight * (rest + 100 * amount) ≡ weight * (101 * most) =
    ap (λ n. weight * n) e in
    let more : 20000 * amount + rest < (uncut amount rest + 1) * (2 * rest) =
    div-above (20000 * amount + rest) (2 * rest) above in
    let no_less : (uncut amount rest + 1) * (2 * rest) ≤ (weight + 1) * (2 * rest) =
    mul-le-mul_right (2 * rest) (omega (arith, is)) in
    record {
      no_less = omega (arith, e, times, more, no_less, within, some);
      no_more = elim (cases_lt (uncut amount rest) 1) [
        | inl none ↦
            let one : weight ≡ 1 = omega (arith, is, none) in
            rw one (omega arith)
        | inr one ↦
            let below : uncut amount rest * (2 * rest) ≤ 20000 * amount + rest =
            div-mul-le_self (20000 * amount + rest) (2 * rest) in
            let same : weight ≡ uncut amount rest = omega (arith, is, one) in
            let at : weight * (2 * rest) ≤ 20000 * amount + rest = rw same below in
            omega (arith, e, times, at)
      ];
    }

near_part : (amount most : ℕ) → 1 ≤ most → amount ≤ most
    → IsNearPart amount most (weight_of_part amount most)
near_part amount most some within =
    let e : rest_of amount most + 100 * amount ≡ 101 * most = omega (arith, within) in
    let least = uncut_le amount most (rest_of amount most) some within e in
    near_uncut amount most (rest_of amount most) (weight_of_part amount most) some within e
    (omega (arith, least))

none_is_least : (most : ℕ) → 1 ≤ most → weight_of_part 0 most ≡ 1
none_is_least most some =
    let least : uncut 0 (rest_of 0 most) ≤ 0 =
    div-le (20000 * 0 + rest_of 0 most) (2 * rest_of 0 most) 0 (omega (arith, some))
    (omega (arith, some)) in
    omega (arith, least)

all_is_greatest : (most : ℕ) → 1 ≤ most → weight_of_part most most ≡ 10000
all_is_greatest most some =
    let least : 10000 ≤ uncut most (rest_of most most) =
    le-div 10000 (20000 * most + rest_of most most) (2 * rest_of most most) (omega (arith, some))
    (omega (arith, some)) in
    omega (arith, least)

-- a greater part has no smaller weight
uncut_rises : (a m r b n s : ℕ) → 0 < r → 0 < s → r + 100 * a ≡ 101 * m → s + 100 * b ≡ 101 * n
    → a * n ≤ b * m → uncut a r ≤ uncut b s
uncut_rises a m r b n s some_r some_s one two cross =
    let first : b * (r + 100 * a) ≡ b * (101 * m) = ap (λ k. b * k) one in
    let second : a * (s + 100 * b) ≡ a * (101 * n) = ap (λ k. a * k) two in
    let less : a * s ≤ b * r = omega (arith, first, second, cross) in
    let times : (20000 * a + r) * (2 * s) ≤ (20000 * b + s) * (2 * r) =
    omega (arith, less) in
    div-cross (20000 * a + r) (2 * r) (20000 * b + s) (2 * s) (omega (arith, some_r))
    (omega (arith, some_s)) times

part_rises : (a m b n : ℕ) → 1 ≤ m → 1 ≤ n → a ≤ m → b ≤ n → a * n ≤ b * m
    → weight_of_part a m ≤ weight_of_part b n
part_rises a m b n some_m some_n a_in b_in cross =
    let one : rest_of a m + 100 * a ≡ 101 * m = omega (arith, a_in) in
    let two : rest_of b n + 100 * b ≡ 101 * n = omega (arith, b_in) in
    let less = uncut_rises a m (rest_of a m) b n (rest_of b n) (omega (arith, a_in, some_m))
    (omega (arith, b_in, some_n)) one two cross in
    omega (arith, less)

-- Limits

pub per_processor-pos : (shape : Shape) → IsHost shape → 1 ≤ slices_per_processor shape
per_processor-pos shape host =
    le-div 1 shape.period_us shape.slice_us (omega (arith, host.long_slice))
    (omega (arith, host.short_slice))

some_slices : (shape : Shape) (tasks : ℕ) → IsHost shape → 1 ≤ slices_of_tasks shape tasks
some_slices shape tasks host = one-le-mul (omega arith) (per_processor-pos shape host)

limit_rises : (shape : Shape) (limit more tasks : ℕ) → IsHost shape → limit ≤ more
    → weight_of_limit shape limit tasks ≤ weight_of_limit shape more tasks
limit_rises shape limit more tasks host within =
    let most = slices_of_tasks shape tasks in
    let some : 1 ≤ most = some_slices shape tasks host in
    part_rises (min limit most) most (min more most) most some some (omega arith) (omega arith)
    (mul-le-mul_right most (omega (arith, within)))

limit_cross : (limit m n : ℕ) → m ≤ n → min limit n * m ≤ min limit m * n
limit_cross limit m n within = elim (cases_lt limit m) [
  | inl less ↦
      let one : min limit n ≡ limit = omega (arith, less, within) in
      let two : min limit m ≡ limit = omega (arith, less) in
      rw one (rw two (mul-le-mul_left limit within))
  | inr more ↦
      let two : min limit m ≡ m = omega (arith, more) in
      let least : min limit n ≤ n = omega arith in
      let times : min limit n * m ≤ n * m = mul-le-mul_right m least in
      rw two (omega (arith, times))
]

limit_falls : (shape : Shape) (limit tasks more : ℕ) → IsHost shape → tasks ≤ more
    → weight_of_limit shape limit more ≤ weight_of_limit shape limit tasks
limit_falls shape limit tasks more host within =
    let few = slices_of_tasks shape tasks in
    let many = slices_of_tasks shape more in
    let most : max 1 tasks ≤ max 1 more = omega (arith, within) in
    let less : few ≤ many = mul-le-mul_right (slices_per_processor shape) most in
    part_rises (min limit many) many (min limit few) few (some_slices shape more host)
    (some_slices shape tasks host) (omega arith) (omega arith) (limit_cross limit few many less)

pub weights : WeightsGiveLimits
weights = record {
  taken = λ shape limit tasks.
      part_taken (min limit (slices_of_tasks shape tasks)) (slices_of_tasks shape tasks);
  near = λ shape limit tasks host.
      near_part (min limit (slices_of_tasks shape tasks)) (slices_of_tasks shape tasks)
      (some_slices shape tasks host) (omega arith);
  least = λ shape tasks host.
      let none : min 0 (slices_of_tasks shape tasks) ≡ 0 = omega arith in
      ap (λ n. weight_of_part n (slices_of_tasks shape tasks)) none
      ∙ none_is_least (slices_of_tasks shape tasks) (some_slices shape tasks host);
  greatest = λ shape limit tasks host more.
      let all : min limit (slices_of_tasks shape tasks) ≡ slices_of_tasks shape tasks =
      omega (arith, more) in
      ap (λ n. weight_of_part n (slices_of_tasks shape tasks)) all
      ∙ all_is_greatest (slices_of_tasks shape tasks) (some_slices shape tasks host);
  rises = limit_rises;
  falls_with_tasks = limit_falls;
}
