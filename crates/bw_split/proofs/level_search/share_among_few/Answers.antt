-- The goals of `share_among_few` that are answered by hand.
use Rattle.std.proofs.Common.{◌≡◌, ◌-◌, ◌<◌, ℕ, List, [], ◌∷◌, length, set, arith, refl}
use Rattle.std.proofs.Common.{inl, inr}
use Rattle.std.specs.Prelude.{sum}
use Rattle.std.proofs.lemmas.Bool.{cases_eq}
use Rattle.bw_split.proofs.Search.{one-IsBestSplit}
use Rattle.bw_split.proofs.level_search.share_among_few.Goals as goal

one_written : (xs : List ℕ) (x : ℕ) → length xs ≡ 1 → set xs 0 x ≡ x ∷ []
one_written [] x e = absurd (omega (arith, e))
one_written (a ∷ []) x e = refl
one_written (a ∷ b ∷ xs) x e = absurd (omega (arith, e))

two_written : (xs : List ℕ) (x y : ℕ) → length xs ≡ 2 → set (set xs 0 x) 1 y ≡ x ∷ y ∷ []
two_written [] x y e = absurd (omega (arith, e))
two_written (a ∷ []) x y e = absurd (omega (arith, e))
two_written (a ∷ b ∷ []) x y e = refl
two_written (a ∷ b ∷ c ∷ xs) x y e = absurd (omega (arith, e))

-- some child is there, where an amount is below the sum of the maxima
some_child : (most : List ℕ) (amount : ℕ) → amount < sum most → 0 < length most
some_child [] amount scarce = absurd (omega (arith, scarce))
some_child (m ∷ ms) amount scarce = omega arith

pub bounds-most-0-else-weights-eq2 : goal.bounds-most-0-else-weights-eq2
bounds-most-0-else-weights-eq2 c =
    some_child c.args.most.now c.args.amount c.requires.scarce

pub returns-then-weights-eq2 : goal.returns-then-weights-eq2
returns-then-weights-eq2 c =
    let first = c.first_of_two-first.result in
    rw (two_written c.args.most.now first (c.args.amount - first)
    (omega (arith, c.requires.can.one_each, c.if-weights-eq2.true)))
    c.first_of_two-first.ensures.best

pub returns-else-weights-eq2 : goal.returns-else-weights-eq2
returns-else-weights-eq2 c =
    let some = some_child c.args.most.now c.args.amount c.requires.scarce in
    let other = c.if-weights-eq2.false in
    let one : length c.args.weights.now ≡ 1 = elim (cases_eq (length c.args.weights.now) 1) [
      | inl e ↦ e
      | inr ne ↦ absurd (other (omega (arith, ne, some, c.requires.few, c.requires.can.one_each)))
    ] in
    rw (one_written c.args.most.now c.args.amount (omega (arith, one, c.requires.can.one_each)))
    (one-IsBestSplit c.args.amount c.args.weights.now c.args.most.now one c.requires.can.one_each
    (c.requires.can.weights_in_range 0 (omega (arith, one))).0 c.requires.can.enough)
