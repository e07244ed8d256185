-- A list of which the items so far are mapped.
use Rattle.std.proofs.Common.{◌≡◌, ℕ, zero, suc, ◌+◌, ◌<◌, List, [], ◌∷◌, ◌++◌, length, get_or}
use Rattle.std.proofs.Common.{take}
use Rattle.std.proofs.Common.{drop, map, slice_set, Bool, true, false, refl, ap, sym, ◌∙◌}
use Rattle.std.proofs.Common.{arith}
use Rattle.std.specs.List.{list_all}
use Rattle.std.proofs.lemmas.List.Folds.{list_all_at}

module _ {X : Type 0} (f : X → X) where
  seam : (xs : List X) (k : ℕ) (d : X) → k < length xs
      → get_or (map f (take k xs) ++ drop k xs) k d ≡ get_or xs k d
  seam [] k d known = absurd (let clash : ⊥ = omega (arith, known) in clash)
  seam (x ∷ xs) zero d known = refl
  seam (x ∷ xs) (suc k) d known = seam xs k d (omega (arith, known))

  next : (xs : List X) (k : ℕ) (d : X) → k < length xs
      → slice_set (map f (take k xs) ++ drop k xs) k (f (get_or xs k d))
      ≡ map f (take (suc k) xs) ++ drop (suc k) xs
  next [] k d known = absurd (let clash : ⊥ = omega (arith, known) in clash)
  next (x ∷ xs) zero d known = refl
  next (x ∷ xs) (suc k) d known = ap (λ ys. f x ∷ ys) (next xs k d (omega (arith, known)))

  -- the item that comes next is as it was
  pub as_it_was : (xs ys : List X) (k : ℕ) (d : X) → ys ≡ map f (take k xs) ++ drop k xs
      → k < length xs → get_or ys k d ≡ get_or xs k d
  as_it_was xs ys k d is known = ap (λ zs. get_or zs k d) is ∙ seam xs k d known

  -- one more is mapped
  pub one_more : (xs ys : List X) (k : ℕ) (d y : X) → ys ≡ map f (take k xs) ++ drop k xs
      → k < length xs → y ≡ f (get_or ys k d)
      → slice_set ys k y ≡ map f (take (k + 1) xs) ++ drop (k + 1) xs
  one_more xs ys k d y is known made =
      ap (λ z. slice_set ys k z) (made ∙ ap f (as_it_was xs ys k d is known))
      ∙ (ap (λ zs. slice_set zs k (f (get_or xs k d))) is
      ∙ (next xs k d known
      ∙ ap (λ n. map f (take n xs) ++ drop n xs)
      (let e : suc k ≡ k + 1 = omega arith in e)))

-- each item passes a test
pub passes : {X : Type 0} (p : X → Bool) (xs : List X) (k : ℕ) (d : X) → k < length xs
    → list_all p xs ≡ true → p (get_or xs k d) ≡ true
passes p xs k d known all = by_test (p (get_or xs k d)) refl where
  by_test : (b : Bool) → p (get_or xs k d) ≡ b → p (get_or xs k d) ≡ true
  by_test true is = is
  by_test false is =
      let none : list_all p xs ≡ false = list_all_at p xs k d known is in
      absurd (let clash : true ≡ false = sym all ∙ none in cc clash)
