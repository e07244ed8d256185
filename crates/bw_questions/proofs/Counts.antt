-- Flags of numbers below n: how many are set, and where two differ.
use Rattle.std.proofs.Common.{◌≡◌, ℕ, zero, suc, ◌<◌, ◌≤◌, ◌⊎◌, Bool, true, false, cond, refl, ◌∙◌}
use Rattle.std.proofs.Common.{arith, inl, inr, ap, sym}
use Rattle.std.specs.Prelude.{count_by}
use Rattle.std.specs.List.{range_with_len}
use Rattle.std.proofs.lemmas.Bool.{cases_eq, cases_Bool}
use Rattle.bw_model.proofs.CallerLemmas.{sum_below, sum_below-le, sum_by-range}

-- the number of flags that are set below n
pub count : ℕ → (ℕ → Bool) → ℕ
count n p = sum_below n (λ k. cond (p k) 1 0)

pub count_is : (n : ℕ) (p : ℕ → Bool) → count_by p (range_with_len 0 n) ≡ count n p
unfolding count
count_is n p = sum_by-range (λ k. cond (p k) 1 0) n

flag_le : (p q : Bool) → (p ≡ true → q ≡ true) → cond {A = ℕ} p 1 0 ≤ cond {A = ℕ} q 1 0
flag_le p q h = elim (cases_Bool p) [
  | inl yes' ↦ rw (yes', h yes') (omega arith)
  | inr no' ↦ rw no' (omega arith)
]

pub count_le : (n : ℕ) (p q : ℕ → Bool) → ((k : ℕ) → k < n → p k ≡ true → q k ≡ true)
    → count n p ≤ count n q
unfolding count
count_le n p q h =
    sum_below-le n (λ k. cond (p k) 1 0) (λ k. cond (q k) 1 0)
    (λ k below. flag_le (p k) (q k) (h k below))

-- A flag that only the second list has set makes its count greater.
pub count_more : (n : ℕ) (p q : ℕ → Bool) → ((k : ℕ) → k < n → p k ≡ true → q k ≡ true)
    → (i : ℕ) → i < n → p i ≡ false → q i ≡ true → count n p < count n q
unfolding count
count_more zero p q h i below no' yes' = absurd (omega (arith, below))
count_more (suc n) p q h i below no' yes' = elim (cases_eq i n) [
  | inl last ↦
      let front : sum_below n (λ k. cond (p k) 1 0) ≤ sum_below n (λ k. cond (q k) 1 0) =
      sum_below-le n (λ k. cond (p k) 1 0) (λ k. cond (q k) 1 0)
      (λ k k_in. flag_le (p k) (q k) (h k (omega (arith, k_in)))) in
      let none : cond {A = ℕ} (p n) 1 0 ≡ 0 = rw (← last) (rw no' refl) in
      let one : cond {A = ℕ} (q n) 1 0 ≡ 1 = rw (← last) (rw yes' refl) in
      omega (arith, front, none, one)
  | inr other ↦
      let front : sum_below n (λ k. cond (p k) 1 0) < sum_below n (λ k. cond (q k) 1 0) =
      count_more n p q (λ k k_in. h k (omega (arith, k_in))) i (omega (arith, below, other)) no'
      yes' in
      let last : cond {A = ℕ} (p n) 1 0 ≤ cond {A = ℕ} (q n) 1 0 =
      flag_le (p n) (q n) (h n (omega arith)) in
      omega (arith, front, last)
]

-- Each flag that is set is set in the second list too, or one is not.
pub missing : (n : ℕ) (p q : ℕ → Bool) → ((k : ℕ) → k < n → p k ≡ true → q k ≡ true)
    ⊎ (i : ℕ) × (i < n) × (p i ≡ true) × (q i ≡ false)
missing zero p q = inl (λ k below. absurd (omega (arith, below)))
missing (suc n) p q = elim (missing n p q) [
  | inr found ↦ inr (found.0, omega (arith, found.1), found.2, found.3)
  | inl all ↦ elim (cases_Bool (p n)) [
    | inr no' ↦ inl (λ k below is. elim (cases_eq k n) [
      | inl last ↦ absurd (let clash : true ≡ false =
          sym is ∙ ap p last ∙ no' in cc)
      | inr other ↦ all k (omega (arith, below, other)) is
    ])
    | inl yes' ↦ elim (cases_Bool (q n)) [
      | inr lacks ↦ inr (n, omega arith, yes', lacks)
      | inl has ↦ inl (λ k below is. elim (cases_eq k n) [
        | inl last ↦ ap q last ∙ has
        | inr other ↦ all k (omega (arith, below, other)) is
      ])
    ]
  ]
]

-- Flags that are no fewer than those of a list that has them all are all of that list.
pub filled : (n : ℕ) (p q : ℕ → Bool) → ((k : ℕ) → k < n → p k ≡ true → q k ≡ true)
    → count n q ≤ count n p → (k : ℕ) → k < n → q k ≡ true → p k ≡ true
filled n p q h many = elim (missing n q p) [
  | inl all ↦ all
  | inr found ↦ absurd
      (let more : count n p < count n q = count_more n p q h found.0 found.1 found.3 found.2 in
      omega (arith, more, many))
]
