-- What children take at a level, one by one and together.
use Rattle.std.proofs.Common.{◌≡◌, ℕ, zero, suc, ◌+◌, ◌*◌, ◌<◌, ◌≤◌, List, length, get_or}
use Rattle.std.proofs.Common.{refl, ◌∙◌, add-one, ap, arith, inl, inr}
use Rattle.std.proofs.Common.{◌/◌, ◌%◌}
use Rattle.std.specs.Prelude.{sum, min}
use Rattle.std.proofs.Math.Nat.{mul-le-mul_left, mul-le-mul_right}
use Rattle.std.proofs.lemmas.Bool.{cases_order}
use Rattle.std.proofs.lemmas.Nat.{div-add-mod'}
use Rattle.bw_model.proofs.CallerLemmas.{sum_below, sum-is, sum_below-le}
use Rattle.bw_model.proofs.CallerLemmas.{sum_below-zero, sum_by-range}
use Rattle.bw_split.specs.Levels.{taken, taken_by_all}
use Rattle.bw_model.specs.declared.limits.TheConstants.{MAX_WEIGHT}
use Rattle.bw_split.specs.declared.limits.TheConstants.{STEPS, FINE, LOW_PART}

-- what taking x at a level says: the last mark is at or below the level, and a next one below the
-- maximum above it
pub record IsTaken (level weight most x : ℕ) : Type 0 where
  pub within : x ≤ most
  pub low : (2 * STEPS) * x ≤ level * weight + STEPS
  pub high : x < most → level * weight < (2 * STEPS) * x + STEPS

pub taken-is : (level weight most : ℕ) → IsTaken level weight most (taken level weight most)
unfolding taken
taken-is level weight most =
    record { within = omega arith; low = omega arith; high = λ h. omega arith }

-- the product of a weight and the steps above whole costs, by their parts
steps-apart : (steps weight : ℕ) → steps * weight / STEPS
    ≡ (steps / FINE * weight + steps % FINE * weight / FINE) / (STEPS / FINE)
steps-apart steps weight =
    let apart : steps * weight ≡ FINE * (steps / FINE * weight) + steps % FINE * weight =
    omega (arith, ap (λ n. n * weight) (div-add-mod' steps FINE)) in
    omega (arith, apart)

-- the slices at a level, with its whole costs and its steps apart
pub taken-apart : (level weight : ℕ) → (level * weight + STEPS) / (2 * STEPS)
    ≡ (level / STEPS * weight + (level % STEPS / FINE * weight
    + level % STEPS % FINE * weight / FINE) / (STEPS / FINE) + 1) / 2
taken-apart level weight =
    let apart : level * weight ≡ STEPS * (level / STEPS * weight) + level % STEPS * weight =
    omega (arith, ap (λ n. n * weight) (div-add-mod' level STEPS)) in
    omega (arith, apart, steps-apart (level % STEPS) weight)

-- the slices at a level, with its parts and the steps above them apart
pub low-apart : (level weight : ℕ) → (level * weight + STEPS) / (2 * STEPS)
    ≡ (level / LOW_PART * weight + level % LOW_PART * weight / LOW_PART + STEPS / LOW_PART)
    / (2 * STEPS / LOW_PART)
low-apart level weight =
    let apart : level * weight
    ≡ LOW_PART * (level / LOW_PART * weight) + level % LOW_PART * weight =
    omega (arith, ap (λ n. n * weight) (div-add-mod' level LOW_PART)) in
    omega (arith, apart)

-- a child that could take x takes so many
pub taken-ge : (level weight most x : ℕ) → x ≤ most → (2 * STEPS) * x ≤ level * weight + STEPS
    → x ≤ taken level weight most
unfolding taken
taken-ge level weight most x within low = omega arith

pub taken-mono : (s t weight most : ℕ) → s ≤ t → taken s weight most ≤ taken t weight most
taken-mono s t weight most h =
    let a : IsTaken s weight most (taken s weight most) = taken-is s weight most in
    taken-ge t weight most (taken s weight most) a.within
    (let b : s * weight ≤ t * weight = mul-le-mul_right weight h in omega (arith, a.low, b))

-- one step of the level is at most one slice
pub taken-step : (t weight most : ℕ) → weight ≤ MAX_WEIGHT
    → taken (t + 1) weight most ≤ taken t weight most + 1
unfolding taken
taken-step t weight most h = omega arith

taken-zero : (weight most : ℕ) → taken 0 weight most ≡ 0
unfolding taken
taken-zero weight most = omega arith

-- half a slice's cost is above the first level
taken-one : (weight most : ℕ) → weight ≤ MAX_WEIGHT → taken 1 weight most ≡ 0
unfolding taken
taken-one weight most h = omega (arith, h)

-- what each child takes at a level
abbrev pub each_takes : ℕ → List ℕ → List ℕ → ℕ → ℕ
each_takes level weights most k = taken level (get_or weights k 0) (get_or most k 0)

pub by_all-is : (level : ℕ) (weights most : List ℕ) →
    taken_by_all level weights most ≡ sum_below (length weights) (each_takes level weights most)
unfolding taken_by_all
by_all-is level weights most = sum_by-range (each_takes level weights most) (length weights)

pub by_all-mono : (s t : ℕ) (weights most : List ℕ) → s ≤ t
    → taken_by_all s weights most ≤ taken_by_all t weights most
by_all-mono s t weights most h = rw (by_all-is s weights most, by_all-is t weights most)
    (sum_below-le (length weights) (each_takes s weights most) (each_takes t weights most)
    (λ k _. taken-mono s t (get_or weights k 0) (get_or most k 0) h))

pub by_all-zero : (weights most : List ℕ) → taken_by_all 0 weights most ≡ 0
by_all-zero weights most = by_all-is 0 weights most ∙
    sum_below-zero (length weights) (each_takes 0 weights most)
    (λ k _. taken-zero (get_or weights k 0) (get_or most k 0))

-- no child takes a slice at level 1
pub by_all-one : (weights most : List ℕ)
    → ((k : ℕ) → k < length weights → get_or weights k 0 ≤ MAX_WEIGHT)
    → taken_by_all 1 weights most ≡ 0
by_all-one weights most light = by_all-is 1 weights most ∙
    sum_below-zero (length weights) (each_takes 1 weights most)
    (λ k below. taken-one (get_or weights k 0) (get_or most k 0) (light k below))

capped : (amount n : ℕ) (f g : ℕ → ℕ) → ((k : ℕ) → k < n → min amount (g k) ≤ f k)
    → min amount (sum_below n g) ≤ sum_below n f
capped amount zero f g h = omega arith
capped amount (suc n) f g h =
    let a : min amount (sum_below n g) ≤ sum_below n f =
    capped amount n f g (λ k below. h k (omega arith)) in
    let b : min amount (g n) ≤ f n = h n (omega arith) in omega (arith, a, b)

-- where each child takes its maximum or the amount, they take every amount that they can
pub by_all-enough : (amount level : ℕ) (weights most : List ℕ) → length most ≡ length weights →
    ((k : ℕ) → k < length weights → min amount (get_or most k 0) ≤ each_takes level weights most k)
    → amount ≤ sum most →
    amount ≤ taken_by_all level weights most
by_all-enough amount level weights most e each enough = rw (by_all-is level weights most)
    (let s : sum most ≡ sum_below (length most) (λ k. get_or most k 0) = sum-is most in
    let s' : sum most ≡ sum_below (length weights) (λ k. get_or most k 0) = rw e at s in
    let c : min amount (sum_below (length weights) (λ k. get_or most k 0))
    ≤ sum_below (length weights) (each_takes level weights most) =
    capped amount (length weights) (each_takes level weights most) (λ k. get_or most k 0) each
    in omega (arith, s', c, enough))

-- two marks that lie between two levels a step apart are of one cost
not_less : (t a p b q : ℕ) → 0 < q → p ≤ MAX_WEIGHT → q ≤ MAX_WEIGHT → t * p < STEPS * a
    → STEPS * b ≤ (t + 1) * q → a * q < b * p → ⊥
not_less t a p b q pos hp hq above below less =
    omega (
      arith,
      mul-le-mul_left q above,
      mul-le-mul_left p below,
      mul-le-mul_left STEPS less,
      mul-le-mul_left q hp,
      mul-le-mul_left MAX_WEIGHT hq,
      pos,
    )

pub same_cost : (t a p b q : ℕ) → 0 < p → 0 < q → p ≤ MAX_WEIGHT → q ≤ MAX_WEIGHT
    → t * p < STEPS * a → STEPS * a ≤ (t + 1) * p →
    t * q < STEPS * b → STEPS * b ≤ (t + 1) * q → a * q ≡ b * p
same_cost t a p b q pp pq hp hq a_above a_below b_above b_below =
    elim (cases_order (a * q) (b * p)) [
      | inl same ↦ same
      | inr (inl less) ↦ absurd (not_less t a p b q pq hp hq a_above b_below less)
      | inr (inr more) ↦ absurd (not_less t b q a p pp hq hp b_above a_below (omega arith))
    ]
