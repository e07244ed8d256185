-- One step of a halving.
use Rattle.std.proofs.Common.{◌≡◌, ℕ, suc, ◌+◌, ◌-◌, ◌*◌, ◌/◌, ◌^◌, ◌<◌, ◌≤◌, subst, sym, ap, ◌∙◌, arith}
use Rattle.std.proofs.Common.{inl, inr}
use Rattle.std.proofs.lemmas.Bool.{cases_lt}
use Rattle.std.proofs.Math.Nat.{pow-suc}
use Rattle.bw_questions.specs.declared.least.setting.Setting.{Setting}
use Rattle.bw_questions.specs.declared.least.setting.Setting.TheVariants.{Weight, Processors}
use Rattle.bw_questions.specs.Change.{greatest_of}
use Rattle.bw_questions.specs.Plans.{halvings_of}

-- numbers below a gap at which a fact does not hold, and the one above it, at which it does
abbrev pub IsGap : (ℕ → Type 0) → ℕ → ℕ → ℕ → Type 0
IsGap Holds greatest low high = (1 ≤ low) × (low ≤ high) × (high ≤ greatest + 1)
    × ((v : ℕ) → 1 ≤ v → v < low → Holds v → ⊥) × (high ≤ greatest → Holds high)

module _ (Holds : ℕ → Type 0) (greatest low high middle : ℕ) (gap : IsGap Holds greatest low high)
    (after : low ≤ middle) (before : middle < high) where
  -- Where the middle holds, it is the new upper end.
  pub lower_half : (l h : ℕ) → l ≡ low → h ≡ middle → Holds middle → IsGap Holds greatest l h
  lower_half l h l_is h_is holds = (
    omega (arith, l_is, gap.0),
    omega (arith, l_is, h_is, after),
    omega (arith, h_is, before, gap.2),
    λ v first less. gap.3 v first (omega (arith, less, l_is)),
    λ within. subst Holds (sym h_is) holds,
  )

  -- Where it does not, no number up to it does.
  pub upper_half : ((v w : ℕ) → 1 ≤ v → v ≤ w → w ≤ greatest → Holds v → Holds w) → (l h : ℕ)
      → l ≡ middle + 1 → h ≡ high → (Holds middle → ⊥) → IsGap Holds greatest l h
  upper_half rises l h l_is h_is fails = (
    omega (arith, l_is),
    omega (arith, l_is, h_is, before),
    omega (arith, h_is, gap.2),
    λ v first less holds. fails
        (rises v middle first (omega (arith, less, l_is)) (omega (arith, before, gap.2)) holds),
    λ within. subst Holds (sym h_is) (gap.4 (omega (arith, within, h_is))),
  )

-- A gap that is not empty takes one halving more.
pub halved : (width next made whole : ℕ) → 0 < width → width < 2 ^ (whole - made)
    → next ≤ width / 2 → made ≤ whole
    → (made + 1 ≤ whole) × (next < 2 ^ (whole - (made + 1)))
halved width next made whole some fits half within = elim (cases_lt made whole) [
  | inl less ↦
      let e : whole - made ≡ suc (whole - (made + 1)) = omega (arith, less) in
      let p : 2 ^ (whole - made) ≡ 2 * 2 ^ (whole - (made + 1)) =
      ap (λ (n : ℕ). 2 ^ n) e ∙ omega (arith, pow-suc 2 (whole - (made + 1))) in
      (omega (arith, less), omega (arith, p, fits, half))
  | inr no_less ↦
      let e : whole - made ≡ 0 = omega (arith, no_less) in
      let none : width < 2 ^ 0 = subst (λ (n : ℕ). width < 2 ^ n) e fits in
      let clash : ⊥ = omega (arith, none, some) in
      absurd clash
]

few_values : (setting : Setting) → greatest_of setting < 2 ^ halvings_of setting
few_values Weight = omega arith
few_values Processors = omega arith

-- All values of a setting are a gap of its halvings.
pub first_width : (setting : Setting) (greatest made : ℕ) → greatest ≡ greatest_of setting
    → greatest + 1 - 1 < 2 ^ (made + halvings_of setting - made)
first_width setting greatest made is =
    let e : halvings_of setting ≡ made + halvings_of setting - made = omega arith in
    subst (λ (n : ℕ). greatest + 1 - 1 < 2 ^ n) e (omega (arith, is, few_values setting))

pub some_value : (setting : Setting) → 0 < greatest_of setting
some_value Weight = omega arith
some_value Processors = omega arith
