-- A weight by the number of a formula grows with the number that it is made of.
use Rattle.std.proofs.Common.{◌≡◌, ℕ, ◌≤◌, Option, Some, None, refl, ap, sym, ◌∙◌, arith, eqb}
use Rattle.std.proofs.Common.{inl, inr, cond, subst}
use Rattle.std.proofs.lemmas.Option.{same_Some}
use Rattle.bw_owned.specs.declared.formula.WeightFormula.{WeightFormula}
use Rattle.bw_owned.specs.declared.formula.WeightFormula.TheVariants.{SharesLinear}
use Rattle.bw_owned.specs.declared.formula.WeightFormula.TheVariants.{SharesLogarithmic}
use Rattle.bw_owned.specs.declared.formula.WeightFormula.TheVariants.{RequestLinear}
use Rattle.bw_owned.specs.declared.formula.WeightFormula.TheVariants.{RequestLogarithmic}
use Rattle.bw_owned.specs.declared.formula.WeightFormula.TheVariants.{UnitShares, UnitWeight}
use Rattle.bw_owned.specs.Formulas.{weight_formula_number}
use Rattle.bw_owned.specs.Laws.{WeightsGrow}
use Rattle.bw_owned.specs.Weights.{IsOwnedWeight}
use Rattle.bw_settings.specs.Following.{IsWeightBy}

-- the formula of a number
abbrev formula_in : ℕ → Option WeightFormula
formula_in code =
    cond (eqb code 1) (Some SharesLinear)
    (cond (eqb code 2) (Some SharesLogarithmic)
    (cond (eqb code 3) (Some RequestLinear)
    (cond (eqb code 4) (Some RequestLogarithmic)
    (cond (eqb code 5) (Some UnitShares) (cond (eqb code 6) (Some UnitWeight) None)))))

by_number : (formula : WeightFormula) → formula_in (weight_formula_number formula) ≡ Some formula
by_number SharesLinear = refl
by_number SharesLogarithmic = refl
by_number RequestLinear = refl
by_number RequestLogarithmic = refl
by_number UnitShares = refl
by_number UnitWeight = refl

-- A number is of one formula.
one_formula : (one other : WeightFormula) (code : ℕ) → weight_formula_number one ≡ code
    → weight_formula_number other ≡ code → one ≡ other
one_formula one other code is also =
    same_Some one other
    (sym (by_number one) ∙ ap formula_in (is ∙ sym also) ∙ by_number other)

pub weights_by_grow : WeightsGrow → (standing code number more weight greater : ℕ) → number ≤ more
    → IsWeightBy standing code number weight → IsWeightBy standing code more greater
    → weight ≤ greater
weights_by_grow grow standing code number more weight greater le first second = elim first [
  | inl by ↦ elim second [
    | inl also ↦
        grow by.0 number more weight greater le by.2
        (subst (λ (f : WeightFormula). IsOwnedWeight f more greater)
        (one_formula also.0 by.0 code also.1 by.1) also.2)
    | inr none ↦ absurd (none.0 by.0 by.1)
  ]
  | inr stays ↦ elim second [
    | inl also ↦ absurd (stays.0 also.0 also.1)
    | inr none ↦ omega (arith, stays.1, none.1)
  ]
]

-- The number 0 is of no formula.
pub no_zero : (formula : WeightFormula) → weight_formula_number formula ≡ 0 → ⊥
no_zero SharesLinear is = omega (arith, is)
no_zero SharesLogarithmic is = omega (arith, is)
no_zero RequestLinear is = omega (arith, is)
no_zero RequestLogarithmic is = omega (arith, is)
no_zero UnitShares is = omega (arith, is)
no_zero UnitWeight is = omega (arith, is)

-- The weight of one number is one.
pub one_weight : WeightsGrow → (standing code number weight other : ℕ)
    → IsWeightBy standing code number weight → IsWeightBy standing code number other
    → weight ≡ other
one_weight grow standing code number weight other first second =
    omega (
      arith,
      weights_by_grow grow standing code number number weight other (omega arith) first second,
      weights_by_grow grow standing code number number other weight (omega arith) second first,
    )
