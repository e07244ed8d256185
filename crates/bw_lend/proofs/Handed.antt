-- Unused places that are handed out one after another.
use Rattle.std.proofs.Common.{◌≡◌, ℕ, zero, suc, ◌+◌, ◌<◌, List, [], ◌∷◌, ◌++◌, length, refl, ap, arith}
use Rattle.atomic_table.specs.Seated.{TableId}
use Rattle.bw_lend.specs.declared.stake.Part.TheVariants.{Fresh}
use Rattle.bw_lend.specs.Rule.{stake, stakes_from, Each}
use Rattle.bw_lend.specs.Plays.{others, first_one}

module _ {X : Type 0} where
  pub snoc_append : (xs ys : List X) (x : X) → (xs ++ x ∷ []) ++ ys ≡ xs ++ x ∷ ys
  snoc_append [] ys x = refl
  snoc_append (z ∷ xs) ys x = ap (λ l. z ∷ l) (snoc_append xs ys x)

  pub append_nothing : (xs ys : List X) → ys ≡ [] → xs ++ ys ≡ xs
  append_nothing [] ys e = e
  append_nothing (z ∷ xs) ys e = ap (λ l. z ∷ l) (append_nothing xs ys e)

  pub none_left : (xs : List X) → length xs ≡ 0 → xs ≡ []
  none_left [] e = refl
  none_left (z ∷ xs) e = absurd (omega arith)

module _ (S : Type 0) where
  pub first_place : (lock : TableId) (k n : ℕ) → 0 < n
      → first_one (stakes_from {S = S} lock k n) ≡ stake lock k Fresh ∷ []
  first_place lock k zero h = absurd (omega arith)
  first_place lock k (suc n) h = refl

  pub other_places : (lock : TableId) (k n m : ℕ) → n ≡ m + 1
      → others (stakes_from {S = S} lock k n) ≡ stakes_from lock (k + 1) m
  other_places lock k zero m h = absurd (omega arith)
  other_places lock k (suc n) m h =
      let e : n ≡ m = omega arith in ap (λ (x : ℕ). stakes_from lock (k + 1) x) e

module _ {X : Type 0} (P : X → Type 0) where
  -- of a list with one more at its end
  pub each_snoc : (xs : List X) (x : X) → Each P xs → P x → Each P (xs ++ x ∷ [])
  each_snoc [] x e p = (p, tt)
  each_snoc (y ∷ ys) x e p = (e.0, each_snoc ys x e.1 p)

  pub each_init : (xs : List X) (x : X) → Each P (xs ++ x ∷ []) → Each P xs × P x
  each_init [] x e = (tt, e.0)
  each_init (y ∷ ys) x e = let rest = each_init ys x e.1 in ((e.0, rest.0), rest.1)
