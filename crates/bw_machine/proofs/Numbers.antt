-- Tests of numbers, by cases.
use Rattle.std.proofs.Common.{◌≡◌, ◌≢◌, ℕ, ◌==◌, ◌⊎◌, inl, inr, Bool, true, false, ap}
use Rattle.std.proofs.lemmas.Bool.{cases_eq, eq-eqb, ne_eqb}

-- what a function says of the test of two numbers
pub equal_or_not : {A : Type 0} (f : Bool → A) (a b : ℕ)
    → ((a ≡ b) × (f (a == b) ≡ f true)) ⊎ ((a ≢ b) × (f (a == b) ≡ f false))
equal_or_not f a b = elim (cases_eq a b) [
  | inl e ↦ inl (e, ap f (eq-eqb a b e))
  | inr n ↦ inr (n, ap f (ne_eqb a b n))
]
