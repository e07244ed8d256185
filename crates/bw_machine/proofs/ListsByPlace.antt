-- Lists by place.
use Rattle.std.proofs.Common.{◌≡◌, ◌≢◌, ℕ, zero, suc, ◌+◌, ◌<◌, List, [], ◌∷◌, ◌++◌, length, take}
use Rattle.std.proofs.Common.{map, replicate, Bool, true, false, cond, Some, set}
use Rattle.std.proofs.Common.{slice_get, refl, ap, sym, ◌∙◌, arith}
use Rattle.std.proofs.lemmas.List.Sums.{sum_by-cons}
use Rattle.std.specs.List.{count_by}

pub get_same : {X : Type 0} (xs : List X) (i : ℕ) (x y : X) → slice_get xs i ≡ Some x
    → slice_get (set xs i y) i ≡ Some y
get_same [] i x y is = absurd (cc is)
get_same (z ∷ xs) zero x y is = refl
get_same (z ∷ xs) (suc i) x y is = get_same xs i x y is

pub get_other : {X : Type 0} (xs : List X) (i j : ℕ) (y : X) → j ≢ i
    → slice_get (set xs i y) j ≡ slice_get xs j
get_other [] i j y ne = refl
get_other (z ∷ xs) zero zero y ne = absurd (ne refl)
get_other (z ∷ xs) zero (suc j) y ne = refl
get_other (z ∷ xs) (suc i) zero y ne = refl
get_other (z ∷ xs) (suc i) (suc j) y ne = get_other xs i j y (λ e. ne (ap suc e))

pub set_map : {X Y : Type 0} (f : X → Y) (xs : List X) (i : ℕ) (y : X)
    → set (map f xs) i (f y) ≡ map f (set xs i y)
set_map f [] i y = refl
set_map f (x ∷ xs) zero y = refl
set_map f (x ∷ xs) (suc i) y = ap (λ zs. f x ∷ zs) (set_map f xs i y)

-- An entry with the same image in place of another one changes no image.
pub set_mapped : {X Y : Type 0} (f : X → Y) (xs : List X) (i : ℕ) (p q : X)
    → slice_get xs i ≡ Some p → f q ≡ f p → map f (set xs i q) ≡ map f xs
set_mapped f [] i p q e h = absurd (cc e)
set_mapped f (x ∷ xs) zero p q e h =
    let d : x ≡ p = cc e in ap (λ z. z ∷ map f xs) (h ∙ ap f (sym d))
set_mapped f (x ∷ xs) (suc i) p q e h = ap (λ zs. f x ∷ zs) (set_mapped f xs i p q e h)

pub get_kept : {X : Type 0} (xs : List X) (y : X) (i : ℕ) (x : X) → slice_get xs i ≡ Some x
    → slice_get (xs ++ y ∷ []) i ≡ Some x
get_kept [] y i x is = absurd (cc is)
get_kept (z ∷ xs) y zero x is = is
get_kept (z ∷ xs) y (suc i) x is = get_kept xs y i x is

pub get_last : {X : Type 0} (xs : List X) (y : X) → slice_get (xs ++ y ∷ []) (length xs) ≡ Some y
get_last [] y = refl
get_last (z ∷ xs) y = get_last xs y

pub take_next : {X : Type 0} (xs : List X) (i : ℕ) (x : X) → slice_get xs i ≡ Some x
    → take (suc i) xs ≡ take i xs ++ x ∷ []
take_next [] i x is = absurd (cc is)
take_next (z ∷ xs) zero x is = let e : z ≡ x = cc is in ap (λ w. w ∷ []) e
take_next (z ∷ xs) (suc i) x is = ap (λ ys. z ∷ ys) (take_next xs i x is)

pub count_cons : {X : Type 0} (p : X → Bool) (x : X) (xs : List X)
    → count_by p (x ∷ xs) ≡ cond {A = ℕ} (p x) 1 0 + count_by p xs
count_cons p x xs = sum_by-cons (λ y. cond {A = ℕ} (p y) 1 0) x xs

-- how many pass, where one changes
pub count_set : {X : Type 0} (p : X → Bool) (xs : List X) (i : ℕ) (x y : X)
    → slice_get xs i ≡ Some x
    → count_by p (set xs i y) + cond {A = ℕ} (p x) 1 0 ≡ count_by p xs + cond {A = ℕ} (p y) 1 0
count_set p [] i x y is = absurd (cc is)
count_set p (z ∷ xs) zero x y is =
    let e : z ≡ x = cc is in
    let same : cond {A = ℕ} (p z) 1 0
    ≡ cond {A = ℕ} (p x) 1 0 = ap (λ w. cond {A = ℕ} (p w) 1 0) e in
    omega (arith, count_cons p y xs, count_cons p z xs)
count_set p (z ∷ xs) (suc i) x y is =
    let ih = count_set p xs i x y is in
    omega (arith, count_cons p z (set xs i y), count_cons p z xs)

-- where some pass, one does
pub count_some : {X : Type 0} (p : X → Bool) (xs : List X) → 0 < count_by p xs
    → (i : ℕ) × (x : X) × (slice_get xs i ≡ Some x) × (p x ≡ true)
count_some p [] some = absurd (omega arith)
count_some {X} p (z ∷ xs) some = decide (p z) refl (λ more. count_some p xs more) where
  decide : (b : Bool) → p z ≡ b
      → (0 < count_by p xs → (i : ℕ) × (x : X) × (slice_get xs i ≡ Some x) × (p x ≡ true))
      → (i : ℕ) × (x : X) × (slice_get (z ∷ xs) i ≡ Some x) × (p x ≡ true)
  decide true e ih = (0, z, refl, e)
  decide false e ih =
      let off : cond {A = ℕ} (p z) 1 0 ≡ 0 = ap (λ b. cond {A = ℕ} b 1 0) e in
      let rest = ih (omega (arith, count_cons p z xs)) in
      (suc rest.0, rest.1, rest.2, rest.3)

pub count_none : {X : Type 0} (p : X → Bool) (n : ℕ) (x : X) → p x ≡ false
    → count_by p (replicate n x) ≡ 0
count_none p zero x off = refl
count_none p (suc n) x off' =
    let off : cond {A = ℕ} (p x) 1 0 ≡ 0 = ap (λ b. cond {A = ℕ} b 1 0) off' in
    omega (arith, count_cons p x (replicate n x), count_none p n x off')

pub get_replicate : {X : Type 0} (n i : ℕ) (x y : X) → slice_get (replicate n x) i ≡ Some y → y ≡ x
get_replicate zero i x y is = absurd (cc is)
get_replicate (suc n) zero x y is = cc is
get_replicate (suc n) (suc i) x y is = get_replicate n i x y is

pub map_snoc : {X Y : Type 0} (f : X → Y) (xs : List X) (x : X)
    → map f (xs ++ x ∷ []) ≡ map f xs ++ f x ∷ []
map_snoc f [] x = refl
map_snoc f (z ∷ xs) x = ap (λ ys. f z ∷ ys) (map_snoc f xs x)

pub length_snoc : {X : Type 0} (xs : List X) (x : X) → length (xs ++ x ∷ []) ≡ suc (length xs)
length_snoc [] x = refl
length_snoc (z ∷ xs) x = ap suc (length_snoc xs x)

abbrev head_or : {X : Type 0} → X → List X → X
head_or a [] = a
head_or a (x ∷ xs) = x

-- the first of two lists of one element that are the same
pub first_is : {X Y : Type 0} (q r : X) (d c : Y) → ◌≡◌ {A = List X × Y} (q ∷ [], d) (r ∷ [], c)
    → q ≡ r
first_is q r d c e = ap (λ m. head_or q m.0) e
