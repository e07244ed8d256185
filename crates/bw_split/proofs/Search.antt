-- The search for a level by halves, and the splits that need none.
use Rattle.std.proofs.Common.{◌≡◌, ℕ, suc, ◌+◌, ◌-◌, ◌*◌, ◌/◌, ◌%◌, ◌^◌, ◌<◌, ◌≤◌, List, [], ◌∷◌}
use Rattle.std.proofs.Common.{length, get_or, refl, sym, ap, ◌∙◌, arith, inl, inr}
use Rattle.std.specs.Prelude.{sum, take, min}
use Rattle.std.proofs.lemmas.Grind.{div_ceil_times}
use Rattle.std.proofs.lemmas.Bool.{cases_lt}
use Rattle.std.proofs.lemmas.List.Sums.{sum_by_more, sum_by-take-le}
use Rattle.std.proofs.Math.Nat.{mul-le-mul_left, mul-le-mul_right, pow-suc}
use Rattle.bw_split.specs.Levels.{taken}
use Rattle.bw_model.specs.Split.{IsBestSplit}
use Rattle.bw_model.proofs.CallerLemmas.{pairwise-IsBestSplit, sum-cons}
use Rattle.bw_split.proofs.Takes.{taken-ge}
use Rattle.bw_model.specs.declared.limits.TheConstants.{MAX_CAPACITY}
use Rattle.bw_split.specs.declared.limits.TheConstants.{STEPS, GREATEST_LEVEL, MAX_ROUNDS}

-- a round halves the reach, with nothing over
pub next_reach : (round reach : ℕ) → round < MAX_ROUNDS → reach ≡ 2 ^ (MAX_ROUNDS - round) →
    (reach / 2 ≡ 2 ^ (MAX_ROUNDS - (round + 1))) × (2 * (reach / 2) ≡ reach)
next_reach round reach few is =
    let e : MAX_ROUNDS - round ≡ suc (MAX_ROUNDS - (round + 1)) = omega arith in
    let p : 2 ^ (MAX_ROUNDS - round) ≡ 2 * 2 ^ (MAX_ROUNDS - (round + 1)) =
    ap (λ n. 2 ^ n) e ∙ omega (arith, pow-suc 2 (MAX_ROUNDS - (round + 1))) in
    (omega (arith, p, is), omega (arith, p, is))

-- Where the amount is the sum of the maxima, they are the split.
pub all-IsBestSplit : (amount : ℕ) (weights most : List ℕ) → length most ≡ length weights →
    ((k : ℕ) → k < length weights → 0 < get_or weights k 0) → sum most ≡ amount
    → IsBestSplit amount weights most most
all-IsBestSplit amount weights most e positive whole =
    pairwise-IsBestSplit weights most most (sym e) (λ k below. positive k (omega (arith, e, below)))
    amount
    (record { lengths = refl; whole = whole; within = λ k _. omega arith })
    (record { above = λ j i j_in i_in room some. absurd (omega arith) })

-- One child alone is given all.
pub one-IsBestSplit : (amount : ℕ) (weights most : List ℕ) → length weights ≡ 1
    → length most ≡ length weights →
    0 < get_or weights 0 0 → amount ≤ sum most → IsBestSplit amount weights most (amount ∷ [])
one-IsBestSplit amount weights [] one each positive enough = absurd (omega (arith, one, each))
one-IsBestSplit amount weights (m ∷ n ∷ others) one each positive enough =
    absurd (omega (arith, one, each))
one-IsBestSplit amount weights (m ∷ []) one each positive enough =
    let within : amount ≤ m = omega (arith, sum-cons m [], enough) in
    pairwise-IsBestSplit weights (m ∷ []) (amount ∷ []) one
    (λ k below. let first : k ≡ 0 = omega arith in rw first positive) amount
    (record {
      lengths = refl;
      whole = omega (arith, sum-cons amount []);
      within = λ k below. let first : k ≡ 0 = omega arith in rw first within;
    })
    (record {
      above = λ j i j_in i_in room some.
          let first_j : j ≡ 0 = omega arith in
          let first_i : i ≡ 0 = omega arith in
          let given : 0 < amount = rw first_i at some in
          let next : 2 * amount + 1 ≡ 2 * amount - 1 + 2 = omega (arith, given) in
          rw (first_j, first_i) (inl (rw next (omega (arith, positive))));
    })

-- the numbers up to a place that is past the bound
pub past_bound : (xs : List ℕ) (i left bound : ℕ) → i < length xs → left + sum (take i xs) ≡ bound
    → left < get_or xs i 0 → sum xs ≤ bound → ⊥
past_bound xs i left bound below so_far over fits =
    omega (
      arith,
      sum_by_more (λ x. x) xs i 0 below,
      sum_by-take-le (λ x. x) xs (i + 1),
      so_far,
      over,
      fits,
    )

-- The level of the last mark of the greatest part at the least weight is in range, and at it each
-- child takes its maximum or the greatest part.
pub upper_reaches : (greatest least d : ℕ) → 0 < least → greatest ≤ MAX_CAPACITY →
    d ≡ (2 * greatest * STEPS - STEPS) / least + min 1 ((2 * greatest * STEPS - STEPS) % least) →
    (d ≤ GREATEST_LEVEL) × ((weight most x : ℕ) → least ≤ weight → x ≤ greatest → x ≤ most
    → x ≤ taken d weight most)
upper_reaches greatest least d pos small is =
    let t : (2 * greatest * STEPS - STEPS ≤ d * least)
    × (d * least < (2 * greatest * STEPS - STEPS) + least) =
    rw is (div_ceil_times (2 * greatest * STEPS - STEPS) least pos) in
    let lower = t.0 in
    let upper = t.1 in (
      elim (cases_lt GREATEST_LEVEL d) [
        | inl more ↦ absurd (omega (
          arith,
          mul-le-mul_right least more,
          upper,
          small,
          mul-le-mul_left GREATEST_LEVEL pos,
        ))
        | inr h ↦ h
      ],
      λ weight most x heavy below within. taken-ge d weight most x within
          (omega (arith, lower, mul-le-mul_left d heavy, below)),
    )
