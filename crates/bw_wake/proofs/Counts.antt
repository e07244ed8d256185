-- How a count over the seats changes with one of them.
use Rattle.std.proofs.Common.{◌≡◌, ℕ, zero, suc, ◌+◌, ◌≤◌, ◌==◌, List, [], ◌∷◌, length, set, ap}
use Rattle.std.proofs.Common.{arith, slice_get, Some, eq-eqb}
use Rattle.bw_wake.specs.declared.seats.Phase.{Phase}
use Rattle.bw_wake.specs.Progress.{count, one_if}

pub same_one : (a b : ℕ) → a ≡ b → one_if (a == b) ≡ 1
same_one a b e = ap one_if (eq-eqb a b e)

pub count_set : (g : Phase → ℕ) (ps : List Phase) (i : ℕ) (p q : Phase) → slice_get ps i ≡ Some p
    → count g (set ps i q) + g p ≡ count g ps + g q
count_set g [] i p q e = absurd (cc e)
count_set g (x ∷ xs) zero p q e = let s : x ≡ p = cc e in let h = ap g s in omega arith
count_set g (x ∷ xs) (suc i) p q e = let h = count_set g xs i p q e in omega arith

pub count-length : (g : Phase → ℕ) (ps : List Phase) → ((p : Phase) → g p ≤ 1)
    → count g ps ≤ length ps
count-length g [] h = omega arith
count-length g (p ∷ ps) h = let a = h p in let b = count-length g ps h in omega arith

pub count-le : (f g : Phase → ℕ) (ps : List Phase) → ((p : Phase) → f p ≤ g p)
    → count f ps ≤ count g ps
count-le f g [] h = omega arith
count-le f g (p ∷ ps) h = let a = h p in let b = count-le f g ps h in omega arith

-- where f is nowhere more than g, the place i takes no more from the sum of f
pub count_le_at : (f g : Phase → ℕ) (ps : List Phase) (i : ℕ) (p : Phase)
    → ((q : Phase) → f q ≤ g q) → slice_get ps i ≡ Some p
    → count f ps + g p ≤ count g ps + f p
count_le_at f g [] i p h e = absurd (cc e)
count_le_at f g (x ∷ xs) zero p h e = let s : x ≡ p = cc e in let a = ap f s in let b = ap g s in
    let c = count-le f g xs h in omega arith
  where
    count-le : (f g : Phase → ℕ) (ps : List Phase) → ((p : Phase) → f p ≤ g p)
        → count f ps ≤ count g ps
    count-le f g [] h = omega arith
    count-le f g (p ∷ ps) h = let a = h p in let b = count-le f g ps h in omega arith
count_le_at f g (x ∷ xs) (suc i) p h e =
    let a = count_le_at f g xs i p h e in let b = h x in omega arith

pub count_at : (g : Phase → ℕ) (ps : List Phase) (i : ℕ) (p : Phase) → slice_get ps i ≡ Some p
    → g p ≤ count g ps
count_at g [] i p e = absurd (cc e)
count_at g (x ∷ xs) zero p e = let s : x ≡ p = cc e in let a = ap g s in omega arith
count_at g (x ∷ xs) (suc i) p e = let a = count_at g xs i p e in omega arith
