-- The split between two children: the first one's share, rounded, and cut to what both can take.
use Rattle.std.proofs.Common.{◌≡◌, ℕ, zero, suc, ◌+◌, ◌-◌, ◌*◌, ◌/◌, ◌<◌, ◌≤◌, List, [], ◌∷◌}
use Rattle.std.proofs.Common.{length, get_or, refl, ap, arith, inl, inr}
use Rattle.std.specs.Prelude.{sum, min, max}
use Rattle.std.proofs.Math.Nat.{mul-le-mul_right, div-mul-le_self, lt-div-mul-add}
use Rattle.std.proofs.lemmas.Bool.{cases_lt}
use Rattle.bw_model.specs.Marks.{last_mark, next_mark, IsBelow}
use Rattle.bw_model.specs.Split.{IsBestSplit}
use Rattle.bw_model.proofs.CallerLemmas.{pairwise-IsBestSplit, sum-cons}

-- two parts of an amount, such that no move of one slice between them gains
record AreEven (v w m n x y : ℕ) : Type 0 where
  pub first_within : x ≤ m
  pub second_within : y ≤ n
  pub to_second : 0 < x → y < n → (2 * x - 1) * w ≤ (2 * y + 1) * v
  pub to_first : 0 < y → x < m → (2 * y - 1) * v < (2 * x + 1) * w

even-IsBelow : (v w m n x y : ℕ) → 0 < v → 0 < w → AreEven v w m n x y →
    (j i : ℕ) → j < 2 → i < 2 → get_or (x ∷ y ∷ []) j 0 < get_or (m ∷ n ∷ []) j 0
    → 0 < get_or (x ∷ y ∷ []) i 0 →
    IsBelow (last_mark (get_or (x ∷ y ∷ []) i 0) (get_or (v ∷ w ∷ []) i 0) i)
    (next_mark (get_or (x ∷ y ∷ []) j 0) (get_or (v ∷ w ∷ []) j 0) j)
even-IsBelow v w m n x y pv pw even zero zero _ _ room some =
    let e : 2 * x + 1 ≡ 2 * x - 1 + 2 = omega (arith, some) in inl (rw e (omega (arith, pv)))
even-IsBelow v w m n x y pv pw even (suc zero) (suc zero) _ _ room some =
    let e : 2 * y + 1 ≡ 2 * y - 1 + 2 = omega (arith, some) in inl (rw e (omega (arith, pw)))
even-IsBelow v w m n x y pv pw even zero (suc zero) _ _ room some = inl (even.to_first some room)
even-IsBelow v w m n x y pv pw even (suc zero) zero _ _ room some =
    let le : (2 * x - 1) * w ≤ (2 * y + 1) * v = even.to_second some room in
    elim (cases_lt ((2 * x - 1) * w) ((2 * y + 1) * v)) [
      | inl less ↦ inl less
      | inr h ↦ inr (omega (arith, le, h), inl (omega arith))
    ]
even-IsBelow v w m n x y pv pw even (suc (suc j)) i j_in _ room some = absurd (omega (arith, j_in))
even-IsBelow v w m n x y pv pw even zero (suc (suc i)) _ i_in room some =
    absurd (omega (arith, i_in))
even-IsBelow v w m n x y pv pw even (suc zero) (suc (suc i)) _ i_in room some =
    absurd (omega (arith, i_in))

even-IsBestSplit : (amount v w m n x y : ℕ) → 0 < v → 0 < w → x + y ≡ amount
    → AreEven v w m n x y → IsBestSplit amount (v ∷ w ∷ []) (m ∷ n ∷ []) (x ∷ y ∷ [])
even-IsBestSplit amount v w m n x y pv pw whole even =
    pairwise-IsBestSplit (v ∷ w ∷ []) (m ∷ n ∷ []) (x ∷ y ∷ []) refl positive amount
    (record {
      lengths = refl;
      whole = omega (arith, sum-cons x (y ∷ []), sum-cons y [], whole);
      within = within;
    })
    (record { above = even-IsBelow v w m n x y pv pw even })
  where
    positive : (k : ℕ) → k < 2 → 0 < get_or (v ∷ w ∷ []) k 0
    positive zero _ = pv
    positive (suc zero) _ = pw
    positive (suc (suc k)) below = absurd (omega (arith, below))

    within : (k : ℕ) → k < 2 → get_or (x ∷ y ∷ []) k 0 ≤ get_or (m ∷ n ∷ []) k 0
    within zero _ = even.first_within
    within (suc zero) _ = even.second_within
    within (suc (suc k)) below = absurd (omega (arith, below))

-- a first part at or below the share by weight, rounded: its last slice costs no more than one more
-- slice of the second
last_first : (p v w x y share : ℕ) → p + 1 ≡ 2 * x → x ≤ share →
    share * (2 * (v + w)) ≤ 2 * (x + y) * v + (v + w) → p * w ≤ (2 * y + 1) * v
last_first p v w x y share e below low =
    let q : (p + 1) * w ≡ (2 * x) * w = ap (λ k. k * w) e in
    omega (arith, q, low, mul-le-mul_right (2 * (v + w)) below)

-- a first part at or above it: one more slice of it costs more than the last one of the second
last_second : (p v w x y share : ℕ) → p + 1 ≡ 2 * y → share ≤ x → 0 < v →
    2 * (x + y) * v + (v + w) < share * (2 * (v + w)) + 2 * (v + w) → p * v < (2 * x + 1) * w
last_second p v w x y share e above pos high =
    let q : (p + 1) * v ≡ (2 * y) * v = ap (λ k. k * v) e in
    omega (arith, q, high, mul-le-mul_right (2 * (v + w)) above)

-- the share is at most the amount
share_le : (amount v w share : ℕ) → 0 < v → share * (2 * (v + w)) ≤ 2 * amount * v + (v + w)
    → share ≤ amount
share_le amount v w share pos low = elim (cases_lt amount share) [
  | inl more ↦ absurd (omega (arith, mul-le-mul_right (2 * (v + w)) more, low, pos))
  | inr h ↦ h
]

-- the first of two children has the share by weight, rounded, cut to what both can take
pub first-IsBestSplit : (amount : ℕ) (weights most : List ℕ) (share x : ℕ) → length weights ≡ 2
    → length most ≡ length weights →
    0 < get_or weights 0 0 → 0 < get_or weights 1 0 → amount ≤ sum most →
    share ≡ (2 * amount * get_or weights 0 0 + (get_or weights 0 0 + get_or weights 1 0))
    / (2 * (get_or weights 0 0 + get_or weights 1 0)) →
    x ≡ min (max share (amount - get_or most 1 0)) (get_or most 0 0) →
    (x ≤ amount) × IsBestSplit amount weights most (x ∷ (amount - x) ∷ [])
first-IsBestSplit amount (v ∷ w ∷ []) (m ∷ n ∷ []) share x two each pv pw enough share_is x_is =
    let whole : 0 < 2 * (v + w) = omega (arith, pv) in
    let low : share * (2 * (v + w)) ≤ 2 * amount * v + (v + w) =
    rw share_is (div-mul-le_self (2 * amount * v + (v + w)) (2 * (v + w))) in
    let high : 2 * amount * v + (v + w) < share * (2 * (v + w)) + 2 * (v + w) =
    rw share_is (lt-div-mul-add {a = 2 * amount * v + (v + w)} {b = 2 * (v + w)} whole) in
    let fits : amount ≤ m + n = omega (arith, enough, sum-cons m (n ∷ []), sum-cons n []) in
    let few : share ≤ amount = share_le amount v w share pv low in
    let within : x ≤ amount = omega (arith, x_is, few) in
    let parts : x + (amount - x) ≡ amount = omega (arith, within) in (
      within,
      even-IsBestSplit amount v w m n x (amount - x) pv pw parts (record {
        first_within = omega (arith, x_is);
        second_within = omega (arith, x_is, fits);
        to_second = λ some room. last_first (2 * x - 1) v w x (amount - x) share
            (omega (arith, some)) (omega (arith, x_is, room, within)) (rw parts low);
        to_first = λ some room. last_second (2 * (amount - x) - 1) v w x (amount - x) share
            (omega (arith, some)) (omega (arith, x_is, room)) pv (rw parts high);
      }),
    )
first-IsBestSplit amount [] most share x two each pv pw enough share_is x_is =
    absurd (omega (arith, two))
first-IsBestSplit amount (v ∷ []) most share x two each pv pw enough share_is x_is =
    absurd (omega (arith, two))
first-IsBestSplit amount (v ∷ w ∷ u ∷ us) most share x two each pv pw enough share_is x_is =
    absurd (omega (arith, two))
first-IsBestSplit amount (v ∷ w ∷ []) [] share x two each pv pw enough share_is x_is =
    absurd (omega (arith, each))
first-IsBestSplit amount (v ∷ w ∷ []) (m ∷ []) share x two each pv pw enough share_is x_is =
    absurd (omega (arith, each))
first-IsBestSplit amount (v ∷ w ∷ []) (m ∷ n ∷ l ∷ ls) share x two each pv pw enough share_is x_is =
    absurd (omega (arith, each))
