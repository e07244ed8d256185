-- The numbers of processors that run tasks of a leaf, where one processor changes.
use Rattle.std.proofs.Common.{◌≡◌, ◌≢◌, ℕ, zero, suc, ◌+◌, ◌≤◌, ◌==◌, List, [], ◌∷◌, length, Bool}
use Rattle.std.proofs.Common.{true, false, Option, None, Some, slice_get, slice_set, refl, ap, sym}
use Rattle.std.proofs.Common.{◌∙◌, arith, if◌then◌else◌}
use Rattle.std.proofs.lemmas.Bool.{eq-eqb, eqb-true, ne_eqb}
use Rattle.dispatch.specs.Runs.{one_run, runs_of}

pub one_run_same : (i k : ℕ) → k ≡ i → one_run i (Some k) ≡ 1
one_run_same i k e = ap (λ b. if◌then◌else◌ {A = ℕ} b 1 0) (eq-eqb k i e)

pub one_run_other : (i k : ℕ) → k ≢ i → one_run i (Some k) ≡ 0
one_run_other i k ne = ap (λ b. if◌then◌else◌ {A = ℕ} b 1 0) (ne_eqb k i ne)

pub runs_set : (i : ℕ) (qs : List (Option ℕ)) (p : ℕ) (q r : Option ℕ) → slice_get qs p ≡ Some q
    → runs_of i (slice_set qs p r) + one_run i q ≡ runs_of i qs + one_run i r
runs_set i [] p q r is = absurd (cc is)
runs_set i (z ∷ qs) zero q r is =
    let e : z ≡ q = cc is in
    let one : one_run i z ≡ one_run i q = ap (one_run i) e in
    omega (arith, one)
runs_set i (z ∷ qs) (suc p) q r is =
    let rest = runs_set i qs p q r is in
    omega (arith, rest)

small : (b : Bool) → if◌then◌else◌ {A = ℕ} b 1 0 ≤ 1
small true = omega arith
small false = omega arith

at_most_one : (j : ℕ) (q : Option ℕ) → one_run j q ≤ 1
at_most_one j None = omega arith
at_most_one j (Some k) = small (k == j)

one_of_two : (i j : ℕ) → i ≢ j → (q : Option ℕ) → one_run i q + one_run j q ≤ 1
one_of_two i j ne None = omega arith
one_of_two i j ne (Some k) = by_test (k == i) refl where
  by_test : (b : Bool) → (k == i) ≡ b → one_run i (Some k) + one_run j (Some k) ≤ 1
  by_test true is =
      let e : k ≡ i = eqb-true k i is in
      let one = one_run_same i k e in
      let none = one_run_other j k (λ f. ne (sym e ∙ f)) in
      omega (arith, one, none)
  by_test false is =
      let none : one_run i (Some k) ≡ 0 = ap (λ b. if◌then◌else◌ {A = ℕ} b 1 0) is in
      omega (arith, none, at_most_one j (Some k))

-- two leaves together run on no more processors than there are
pub two_runs : (i j : ℕ) → i ≢ j → (qs : List (Option ℕ))
    → runs_of i qs + runs_of j qs ≤ length qs
two_runs i j ne [] = omega arith
two_runs i j ne (q ∷ qs) = omega (arith, one_of_two i j ne q, two_runs i j ne qs)

pub length_set : {X : Type 0} (xs : List X) (i : ℕ) (x : X) → length (slice_set xs i x) ≡ length xs
length_set [] i x = refl
length_set (z ∷ xs) zero x = refl
length_set (z ∷ xs) (suc i) x = ap suc (length_set xs i x)
