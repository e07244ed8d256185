-- The leaves of the first rows.
use Rattle.bw_model.specs.declared.row.Row.{Row}
use Rattle.std.proofs.Common.{◌≡◌, ◌≢◌, ℕ, zero, suc, ◌+◌, ◌==◌, inl, inr, List, [], ◌∷◌, ◌++◌}
use Rattle.std.proofs.Common.{length, Bool, true, false, cond, ◌&&◌, refl, sym, ap, ◌∙◌, subst}
use Rattle.std.proofs.Common.{arith}
use Rattle.std.proofs.Common.{append-nil}
use Rattle.std.specs.Prelude.{nat_lt}
use Rattle.std.proofs.lemmas.Bool.{lt-ltb, le-ltb, cases_lt, and_from, and_left, and_right}
use Rattle.std.proofs.lemmas.Bool.Decides.{eqb_tells}
use Rattle.bw_model.specs.Groups.{is_leaf}
use Rattle.bw_workers.specs.Rounds.{leaves_below, leaves_in}

-- how often x stands in the list
abbrev pub times : ℕ → List ℕ → ℕ
times x [] = 0
times x (y ∷ ys) = cond {A = ℕ} (y == x) 1 0 + times x ys

-- whether it is a row, and a leaf
abbrev pub is_leaf_row : List Row → ℕ → Bool
is_leaf_row tree g = nat_lt g (length tree) && is_leaf tree g

abbrev pub AreLeavesTo : List Row → ℕ → List ℕ → Type 0
AreLeavesTo tree n leaves = (x : ℕ)
    → times x leaves ≡ cond {A = ℕ} (nat_lt x n && is_leaf tree x) 1 0

pub later : (a t t' c : ℕ) → t ≡ t' + c → a + t ≡ (a + t') + c
later a t t' c h = omega arith

times_snoc : (xs : List ℕ) (x y : ℕ)
    → times x (xs ++ y ∷ []) ≡ times x xs + cond {A = ℕ} (y == x) 1 0
times_snoc [] x y = turned (cond {A = ℕ} (y == x) 1 0) where
  turned : (a : ℕ) → a + 0 ≡ 0 + a
  turned a = omega arith
times_snoc (z ∷ xs) x y = later (cond {A = ℕ} (z == x) 1 0) (times x (xs ++ y ∷ [])) (times x xs)
    (cond {A = ℕ} (y == x) 1 0) (times_snoc xs x y)

same_below : (x row : ℕ) → row ≢ x → nat_lt x (row + 1) ≡ nat_lt x row
same_below x row ne = elim (cases_lt x row) [
  | inl h ↦ lt-ltb x (row + 1) (omega arith) ∙ sym (lt-ltb x row h)
  | inr h ↦ le-ltb x (row + 1) (omega arith) ∙ sym (le-ltb x row h)
]

plus_none : (t c : ℕ) → c ≡ 0 → t + c ≡ t
plus_none t c h = omega arith

pub no_rows : (tree : List Row) → AreLeavesTo tree 0 []
no_rows tree x =
    sym (ap (λ b. cond {A = ℕ} b 1 0)
    (and_left (nat_lt x 0) (is_leaf tree x) (le-ltb x 0 (omega arith))))

pub next_leaf : (tree : List Row) (row : ℕ) (leaves : List ℕ) → AreLeavesTo tree row leaves
    → is_leaf tree row ≡ true →
    AreLeavesTo tree (row + 1) (leaves ++ row ∷ [])
next_leaf tree row leaves h is x = elim (eqb_tells row x) [
  | inl e ↦ let before : times x leaves ≡ 0 =
      h x ∙ ap (λ b. cond {A = ℕ} b 1 0)
      (and_left (nat_lt x row) (is_leaf tree x) (le-ltb x row (omega (arith, e.1)))) in
      let here : cond {A = ℕ} (row == x) 1 0 ≡ 1 = ap (λ b. cond {A = ℕ} b 1 0) e.0 in
      let now : cond {A = ℕ} (nat_lt x (row + 1) && is_leaf tree x) 1 0 ≡ 1 =
      ap (λ b. cond {A = ℕ} b 1 0)
      (and_from (nat_lt x (row + 1)) (is_leaf tree x) (lt-ltb x (row + 1) (omega (arith, e.1)))
      (ap (is_leaf tree) (sym e.1) ∙ is)) in
      times_snoc leaves x row ∙ (λ i. before i + here i) ∙ sym now
  | inr e ↦ times_snoc leaves x row ∙ plus_none (times x leaves) (cond {A = ℕ} (row == x) 1 0)
      (ap (λ b. cond {A = ℕ} b 1 0) e.0) ∙ h x
      ∙ ap (λ b. cond {A = ℕ} (b && is_leaf tree x) 1 0) (sym (same_below x row e.1))
]

pub next_inner : (tree : List Row) (row : ℕ) (leaves : List ℕ) → AreLeavesTo tree row leaves
    → is_leaf tree row ≡ false → AreLeavesTo tree (row + 1) leaves
next_inner tree row leaves h is x = elim (eqb_tells row x) [
  | inl e ↦ let not_leaf : is_leaf tree x ≡ false = ap (is_leaf tree) (sym e.1) ∙ is in
      h x ∙ ap (λ b. cond {A = ℕ} b 1 0) (and_right (nat_lt x row) (is_leaf tree x) not_leaf
      ∙ sym (and_right (nat_lt x (row + 1)) (is_leaf tree x) not_leaf))
  | inr e ↦ h x ∙ ap (λ b. cond {A = ℕ} (b && is_leaf tree x) 1 0) (sym (same_below x row e.1))
]

one_more : (tree : List Row) (n : ℕ) (leaves : List ℕ) (b : Bool) → is_leaf tree n ≡ b
    → AreLeavesTo tree n leaves
    → AreLeavesTo tree (n + 1) (leaves ++ (cond {A = List ℕ} b (n ∷ []) []))
one_more tree n leaves true h was = next_leaf tree n leaves was h
one_more tree n leaves false h was =
    subst (AreLeavesTo tree (n + 1)) (sym (append-nil leaves)) (next_inner tree n leaves was h)

stand_once : (tree : List Row) (n : ℕ) → AreLeavesTo tree n (leaves_below tree n)
stand_once tree zero = no_rows tree
stand_once tree (suc n) = let e : n + 1 ≡ suc n = omega arith in
    subst (λ (k : ℕ). AreLeavesTo tree k (leaves_below tree (suc n))) e
    (one_more tree n (leaves_below tree n) (is_leaf tree n) refl (stand_once tree n))

-- each leaf stands once among all leaves, and nothing else does
pub leaves_once : (tree : List Row) (g : ℕ)
    → times g (leaves_in tree) ≡ cond {A = ℕ} (is_leaf_row tree g) 1 0
leaves_once tree g = stand_once tree (length tree) g

-- one row more
pub more_leaf : (tree : List Row) (n : ℕ) → is_leaf tree n ≡ true
    → leaves_below tree (n + 1) ≡ leaves_below tree n ++ n ∷ []
more_leaf tree n h = let e : n + 1 ≡ suc n = omega arith in
    ap (leaves_below tree) e
    ∙ ap (λ b. leaves_below tree n ++ (cond {A = List ℕ} b (n ∷ []) [])) h

pub more_inner : (tree : List Row) (n : ℕ) → is_leaf tree n ≡ false
    → leaves_below tree (n + 1) ≡ leaves_below tree n
more_inner tree n h = let e : n + 1 ≡ suc n = omega arith in
    ap (leaves_below tree) e
    ∙ ap (λ b. leaves_below tree n ++ (cond {A = List ℕ} b (n ∷ []) [])) h
    ∙ append-nil (leaves_below tree n)
