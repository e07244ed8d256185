-- Sums over the members of all lists, and facts about each member, where one list changes.
use Rattle.std.proofs.Common.{◌≡◌, ◌≢◌, ℕ, zero, suc, ◌+◌, ◌≤◌, List, [], ◌∷◌, ◌++◌, set}
use Rattle.std.proofs.Common.{refl, sym, ap, subst, ⊎_elim, arith}
use mathlib.Core.Option.{some, some-injective, some-ne-none}
use mathlib.Core.Logic.{dite}
use native.Mathlib.Decide.{ℕ_discrete}
use lib.ListN.{get_elem?}
use Rattle.atomic_table.proofs.Lists.{at_set, at_snoc}
use Rattle.bw_lend.specs.Rule.{weigh, weigh_all, Each, EachIn}

-- what holds at k and at each other number holds at every number
pub here_or_else : (P : ℕ → Type 0) (k : ℕ) → P k → ((j : ℕ) → j ≢ k → P j) → (j : ℕ) → P j
here_or_else P k here other j = dite (ℕ_discrete j k) (λ (e : j ≡ k). subst P (sym e) here)
    (λ (ne : j ≢ k). other j ne)

module _ {X : Type 0} where
  pub weigh_set : (g : X → ℕ) (views : List (List X)) (id : ℕ) (v w : List X)
      → get_elem? views id ≡ some v
      → weigh_all g (set views id w) + weigh g v ≡ weigh_all g views + weigh g w
  weigh_set g [] id v w e = absurd (some-ne-none v (sym e))
  weigh_set g (x ∷ xs) zero v w e = let h = ap (weigh g) (some-injective x v e) in omega arith
  weigh_set g (x ∷ xs) (suc i) v w e = let h = weigh_set g xs i v w e in omega arith

  pub weigh_snoc : (g : X → ℕ) (views : List (List X)) (v : List X)
      → weigh_all g (views ++ v ∷ []) ≡ weigh_all g views + weigh g v
  weigh_snoc g [] v = omega arith
  weigh_snoc g (x ∷ xs) v = let h = weigh_snoc g xs v in omega arith

  pub weigh_at : (g : X → ℕ) (views : List (List X)) (id : ℕ) (v : List X)
      → get_elem? views id ≡ some v → weigh g v ≤ weigh_all g views
  weigh_at g [] id v e = absurd (some-ne-none v (sym e))
  weigh_at g (x ∷ xs) zero v e = let h = ap (weigh g) (some-injective x v e) in omega arith
  weigh_at g (x ∷ xs) (suc i) v e = let h = weigh_at g xs i v e in omega arith

  weigh_two : (g : X → ℕ) (views : List (List X)) (i j : ℕ) (v w : List X)
      → get_elem? views i ≡ some v → get_elem? views j ≡ some w → j ≢ i
      → weigh g v + weigh g w ≤ weigh_all g views
  weigh_two g [] i j v w e f ne = absurd (some-ne-none v (sym e))
  weigh_two g (x ∷ xs) zero zero v w e f ne = absurd (ne refl)
  weigh_two g (x ∷ xs) zero (suc j) v w e f ne =
      let h = ap (weigh g) (some-injective x v e) in let k = weigh_at g xs j w f in omega arith
  weigh_two g (x ∷ xs) (suc i) zero v w e f ne =
      let h = ap (weigh g) (some-injective x w f) in let k = weigh_at g xs i v e in omega arith
  weigh_two g (x ∷ xs) (suc i) (suc j) v w e f ne =
      let k = weigh_two g xs i j v w e f (λ h. ne (ap suc h)) in omega arith

  pub each_zero : (g : X → ℕ) (v : List X) → weigh g v ≡ 0 → Each (λ p. g p ≡ 0) v
  each_zero g [] h = tt
  each_zero g (p ∷ v) h = (omega arith, each_zero g v (omega arith))

  -- where one list has all that there may be, the others have nothing
  pub alone : (g : X → ℕ) (views : List (List X)) (id : ℕ) (v : List X)
      → get_elem? views id ≡ some v → 1 ≤ weigh g v → weigh_all g views ≤ 1
      → (j : ℕ) (u : List X) → j ≢ id → get_elem? views j ≡ some u → Each (λ p. g p ≡ 0) u
  alone g views id v at one most j u ne e =
      each_zero g u (let h = weigh_two g views id j v u at e ne in omega arith)

  pub each_anything : (v : List X) → Each (λ p. Unit {0}) v
  each_anything [] = tt
  each_anything (p ∷ v) = (tt, each_anything v)

  pub each_with : (P Q G : X → Type 0) (v : List X) → ((p : X) → P p → Q p → G p) → Each P v
      → Each Q v → Each G v
  each_with P Q G [] f h k = tt
  each_with P Q G (p ∷ v) f h k = (f p h.0 k.0, each_with P Q G v f h.1 k.1)

  pub each_set : (F G : X → Type 0) (views : List (List X)) (id : ℕ) (new : List X)
      → EachIn F views
      → ((j : ℕ) (v : List X) → j ≢ id → get_elem? views j ≡ some v → Each F v → Each G v)
      → Each G new → EachIn G (set views id new)
  each_set F G views id new each f here j v e =
      ⊎_elim (λ (t : (j ≡ id) × (new ≡ v)). subst (Each G) t.1 here)
      (λ (t : (j ≢ id) × (get_elem? views j ≡ some v)). f j v t.0 t.1 (each j v t.1))
      (at_set views id j new v e)

  pub each_snoc : (F : X → Type 0) (views : List (List X)) (new : List X) → EachIn F views
      → Each F new → EachIn F (views ++ new ∷ [])
  each_snoc F views new each here j v e =
      ⊎_elim (λ (t : get_elem? views j ≡ some v). each j v t)
      (λ (t : new ≡ v). subst (Each F) t here)
      (at_snoc views new v j e)
