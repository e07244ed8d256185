-- At most n numbers below n differ from each other.
use Rattle.std.proofs.Common.{◌≡◌, ℕ, zero, suc, ◌<◌, ◌≤◌, ◌≢◌, ◌==◌, Bool, true, false}
use Rattle.std.proofs.Common.{if◌then◌else◌, eq-eqb, eqb-true, refl, sym, ap, ◌∙◌, subst, arith}
use mathlib.Core.Logic.{dite}
use native.Mathlib.Decide.{ℕ_discrete}

abbrev swap : ℕ → ℕ → ℕ → ℕ
swap n v x = if x == n then v else x

swap_here : (n v x : ℕ) → x ≡ n → swap n v x ≡ v
swap_here n v x e = ap (λ (b : Bool). if b then v else x) (eq-eqb x n e)

swap_else : (n v x : ℕ) → x ≢ n → swap n v x ≡ x
swap_else n v x ne = by_test (x == n) (λ e. ne (eqb-true x n e))
  where
    by_test : (b : Bool) → (b ≡ true → ⊥) → (if b then v else x) ≡ x
    by_test true h = absurd (h refl)
    by_test false h = refl

pub at_most : (n m : ℕ) (f : ℕ → ℕ) → ((k : ℕ) → k < m → f k < n)
    → ((j k : ℕ) → j < m → k < m → f j ≡ f k → j ≡ k) → m ≤ n
at_most n zero f below apart = omega arith
at_most zero (suc m) f below apart = absurd (let h = below zero (omega arith) in omega arith)
at_most (suc n) (suc m) f below apart =
    let le = at_most n m (λ k. swap n (f m) (f k)) small differ in omega arith
  where
    last : (k : ℕ) → k < m → f m ≢ f k
    last k lt e = let same = apart m k (omega arith) (omega arith) e in omega arith

    small : (k : ℕ) → k < m → swap n (f m) (f k) < n
    small k lt = let b = below m (omega arith) in let c = below k (omega arith) in
        dite (ℕ_discrete (f k) n)
        (λ e. subst (λ x. x < n) (sym (swap_here n (f m) (f k) e))
        (let l = last k lt in let z : f m ≢ n = λ h. l (h ∙ sym e) in omega arith))
        (λ ne. subst (λ x. x < n) (sym (swap_else n (f m) (f k) ne)) (omega arith))

    differ : (j k : ℕ) → j < m → k < m → swap n (f m) (f j) ≡ swap n (f m) (f k) → j ≡ k
    differ j k lj lk h = dite (ℕ_discrete (f j) n)
        (λ ej. dite (ℕ_discrete (f k) n)
        (λ ek. apart j k (omega arith) (omega arith) (ej ∙ sym ek))
        (λ nk. absurd (last k lk
        (sym (swap_here n (f m) (f j) ej) ∙ h ∙ swap_else n (f m) (f k) nk))))
        (λ nj. dite (ℕ_discrete (f k) n)
        (λ ek. absurd (last j lj
        (sym (swap_here n (f m) (f k) ek) ∙ sym h ∙ swap_else n (f m) (f j) nj)))
        (λ nk. apart j k (omega arith) (omega arith)
        (sym (swap_else n (f m) (f j) nj) ∙ h ∙ swap_else n (f m) (f k) nk)))
