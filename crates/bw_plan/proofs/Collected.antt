-- What was collected from the rows of a depth.
use Rattle.std.proofs.Common.{◌≡◌, ℕ, List, [], ◌∷◌, length, get_or, map, Ok, Err, Vec, refl, arith}
use Rattle.std.proofs.Common.{zero, suc, ◌<◌, Bor}
use Rattle.std.specs.Prelude.{Result, IfOk, MatchResult}
use Rattle.std.specs.List.{AllZip, Contains}
use Rattle.std.specs.declared.alloc.Global.{Global}
use Rattle.std.specs.declared.alloc.AllocError.{AllocError}
use Rattle.rayon.proofs.ToStd.{slice-AllZip}
use Rattle.bw_plan.specs.declared.counted_parts.CountedParts.{CountedParts}

-- where each answer is an `Ok`, what the rule says of these
all_ok : {Z V : Type 0} (R : Z → V → Type 0) (zs : List Z) (ys : List V) →
    AllZip (λ z (x : Result V AllocError). IfOk x (λ v. R z v)) zs (map (λ v. Ok v) ys)
    → AllZip R zs ys
all_ok R [] [] h = tt
all_ok R [] (y ∷ ys) h = absurd h
all_ok R (z ∷ zs) [] h = absurd h
all_ok R (z ∷ zs) (y ∷ ys) h = (h.0, all_ok R zs ys h.1)

pub collected : (R : ℕ → CountedParts → Type 0) (listed : List ℕ) (zs : List (Bor ℕ))
    (xs : List (Result (CountedParts) AllocError))
    (r : Result (Vec CountedParts Global) AllocError) → map (λ (z : Bor ℕ). z.now) zs ≡ listed →
    AllZip (λ z x. IfOk x (λ v. R z.now v)) zs xs →
    MatchResult r (λ v. (ys : List CountedParts) × (xs ≡ map (λ y. Ok y) ys) × (v.items ≡ ys))
    (λ e. Contains xs (Err e)) →
    IfOk r (λ v. AllZip R listed v.items)
collected R listed zs xs (Err e) shown each found = tt
collected R listed zs xs (Ok v) shown each found =
    rw found.2 (slice-AllZip zs listed shown R found.0
    (all_ok (λ (z : Bor ℕ) y. R z.now y) zs found.0 (rw found.1 at each)))

-- the answer at a place
pub at_place : (R : ℕ → CountedParts → Type 0) (xs : List ℕ) (ys : List CountedParts) (k d : ℕ)
    (e : CountedParts) → AllZip R xs ys → k < length xs →
    R (get_or xs k d) (get_or ys k e)
at_place R [] ys k d e h lt = absurd (omega arith)
at_place R (x ∷ xs) [] k d e h lt = absurd h
at_place R (x ∷ xs) (y ∷ ys) zero d e h lt = h.0
at_place R (x ∷ xs) (y ∷ ys) (suc k) d e h lt = at_place R xs ys k d e h.1 (omega arith)

pub zip_long : (R : ℕ → CountedParts → Type 0) (xs : List ℕ) (ys : List CountedParts)
    → AllZip R xs ys → length ys ≡ length xs
zip_long R [] [] h = refl
zip_long R [] (y ∷ ys) h = absurd h
zip_long R (x ∷ xs) [] h = absurd h
zip_long R (x ∷ xs) (y ∷ ys) h =
    let rest : length ys ≡ length xs = zip_long R xs ys h.1 in omega (arith, rest)
