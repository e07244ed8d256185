-- Sums over a list, where one item or each item changes.
use Rattle.std.proofs.Common.{◌≡◌, ◌≢◌, ℕ, zero, suc, ◌+◌, ◌*◌, ◌<◌, ◌≤◌, List, [], ◌∷◌, length}
use Rattle.std.proofs.Common.{get_or, slice_get, slice_set, map, Some, ap, arith}
use Rattle.std.specs.List.{sum_by}
use Rattle.std.proofs.lemmas.List.Sums.{sum_by-cons}

module _ {X : Type 0} where
  pub sum_set : (f : X → ℕ) (xs : List X) (i : ℕ) (x y : X) → slice_get xs i ≡ Some x
      → sum_by f (slice_set xs i y) + f x ≡ sum_by f xs + f y
  sum_set f [] i x y is = absurd (cc is)
  sum_set f (z ∷ xs) zero x y is =
      let e : z ≡ x = cc is in
      let same : f z ≡ f x = ap f e in
      omega (arith, same, sum_by-cons f y xs, sum_by-cons f z xs)
  sum_set f (z ∷ xs) (suc i) x y is =
      omega (
        arith,
        sum_set f xs i x y is,
        sum_by-cons f z (slice_set xs i y),
        sum_by-cons f z xs,
      )

  pub sum_each : (f b : X → ℕ) (xs : List X) (d : X)
      → ((k : ℕ) → f (get_or xs k d) ≤ b (get_or xs k d)) → sum_by f xs ≤ sum_by b xs
  sum_each f b [] d each = omega arith
  sum_each f b (x ∷ xs) d each =
      omega (
        arith,
        each 0,
        sum_each f b xs d (λ k. each (suc k)),
        sum_by-cons f x xs,
        sum_by-cons b x xs,
      )

  pub sum_set_each : (f b : X → ℕ) (xs : List X) (i : ℕ) (y d : X) → f y ≤ b (get_or xs i d)
      → ((k : ℕ) → k ≢ i → f (get_or xs k d) ≤ b (get_or xs k d))
      → sum_by f (slice_set xs i y) ≤ sum_by b xs
  sum_set_each f b [] i y d own each = omega arith
  sum_set_each f b (z ∷ xs) zero y d own each =
      let rest : sum_by f xs ≤ sum_by b xs =
      sum_each f b xs d (λ k. each (suc k) (λ e. let clash : ⊥ = omega (arith, e) in clash)) in
      omega (arith, own, rest, sum_by-cons f y xs, sum_by-cons b z xs)
  sum_set_each f b (z ∷ xs) (suc i) y d own each =
      let rest : sum_by f (slice_set xs i y) ≤ sum_by b xs =
      sum_set_each f b xs i y d own
      (λ k ne. each (suc k) (λ e. ne (let same : k ≡ i = omega (arith, e) in same))) in
      let here : f z ≤ b z =
      each 0 (λ e. let clash : ⊥ = omega (arith, e) in clash) in
      omega (arith, here, rest, sum_by-cons f z (slice_set xs i y), sum_by-cons b z xs)

  pub sum_map : (f b : X → ℕ) (h : X → X) (xs : List X) (d : X)
      → ((k : ℕ) → k < length xs → f (h (get_or xs k d)) ≤ b (get_or xs k d))
      → sum_by f (map h xs) ≤ sum_by b xs
  sum_map f b h [] d each = omega arith
  sum_map f b h (x ∷ xs) d each =
      omega (
        arith,
        each 0 (omega arith),
        sum_map f b h xs d (λ k inside. each (suc k) (omega (arith, inside))),
        sum_by-cons f (h x) (map h xs),
        sum_by-cons b x xs,
      )

  pub sum_none : (f : X → ℕ) (xs : List X) (d : X) → ((k : ℕ) → f (get_or xs k d) ≡ 0)
      → sum_by f xs ≡ 0
  sum_none f [] d each = omega arith
  sum_none f (x ∷ xs) d each =
      omega (arith, each 0, sum_none f xs d (λ k. each (suc k)), sum_by-cons f x xs)

  pub one_of_sum : (f : X → ℕ) (xs : List X) (i : ℕ) (d : X) → i < length xs
      → f (get_or xs i d) ≤ sum_by f xs
  one_of_sum f [] i d known = absurd (let clash : ⊥ = omega (arith, known) in clash)
  one_of_sum f (x ∷ xs) zero d known = omega (arith, sum_by-cons f x xs)
  one_of_sum f (x ∷ xs) (suc i) d known =
      omega (arith, one_of_sum f xs i d (omega (arith, known)), sum_by-cons f x xs)

  pub sum_products : (g r : X → ℕ) (e q : ℕ) (xs : List X)
      → sum_by (λ x. g x * e + r x * q) xs ≡ sum_by g xs * e + sum_by r xs * q
  sum_products g r e q [] = omega arith
  sum_products g r e q (x ∷ xs) =
      let one : sum_by g (x ∷ xs) * e ≡ (g x + sum_by g xs) * e =
      ap (λ n. n * e) (sum_by-cons g x xs) in
      let two : sum_by r (x ∷ xs) * q ≡ (r x + sum_by r xs) * q =
      ap (λ n. n * q) (sum_by-cons r x xs) in
      omega (
        arith,
        sum_products g r e q xs,
        one,
        two,
        sum_by-cons (λ y. g y * e + r y * q) x xs,
      )
