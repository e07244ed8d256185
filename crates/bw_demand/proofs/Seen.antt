-- Which groups a walk from the deepest groups up has seen.
use Rattle.std.proofs.Common.{◌≡◌, ℕ, zero, suc, ◌+◌, ◌<◌, ◌≤◌, ◌==◌, ◌||◌, Bool, true, false, not}
use Rattle.std.proofs.Common.{true≢false, eqb, ltb, List, [], ◌∷◌, take, length, get_or}
use Rattle.std.proofs.Common.{Some, Vec, refl, sym, ap, ◌∙◌, arith, inl, inr}
use Rattle.std.specs.List.{list_any}
use Rattle.std.specs.declared.alloc.Global.{Global}
use Rattle.std.proofs.Math.Bool.{or-false, or_assoc}
use Rattle.std.proofs.lemmas.Bool.{cases_lt, cases_eq, eq-eqb, ne_eqb, eqb-true, lt-ltb, le-ltb}
use Rattle.std.proofs.lemmas.Bool.{or_cases, false_from_ne_true}
use Rattle.std.proofs.lemmas.List.{take_all}
use Rattle.std.proofs.lemmas.List.Folds.{list_any_more, list_any_at}
use Rattle.bw_model.specs.declared.row.Row.{Row}
use Rattle.bw_model.specs.Groups.{AreTreeRows, parent_of, depth_of}
use Rattle.bw_model.proofs.CallerLemmas.{parent_lt, depth_of-step}
use Rattle.bw_demand.specs.ByDepth.{rows_of_depth, AreByDepth}
use Rattle.bw_demand.proofs.ByDepth.{depth_row, depth_rises, depth_has}

-- the groups from this depth on
abbrev pub seen_from : List Row → ℕ → ℕ → Bool
seen_from rows d c = not (ltb (depth_of rows c) d)

-- and the first k of those at this depth
abbrev pub seen_at : List Row → ℕ → ℕ → ℕ → Bool
seen_at rows d k c = seen_from rows (d + 1) c
    || list_any (λ h. h == c) (take k (rows_of_depth rows d))

-- one of the first k
pub among : (xs : List ℕ) (k c : ℕ) → list_any (λ h. h == c) (take k xs) ≡ true
    → (j : ℕ) × (j < k) × (j < length xs) × (get_or xs j 0 ≡ c)
among xs zero c e = absurd (true≢false (sym e))
among [] (suc k) c e = absurd (true≢false (sym e))
among (x ∷ xs) (suc k) c e = elim (or_cases (x == c) (list_any (λ h. h == c) (take k xs)) e) [
  | inl here ↦ (0, omega arith, omega arith, eqb-true x c here)
  | inr later ↦
      let r : (j : ℕ) × (j < k) × (j < length xs) × (get_or xs j 0 ≡ c) = among xs k c later in
      (suc r.0, omega (arith, r.1), omega (arith, r.2), r.3)
]

-- before the deepest groups
pub none_seen : (rows : List Row) (depths : List (Vec ℕ Global)) (d : ℕ) → AreByDepth rows depths
    → d ≡ length depths →
    (c : ℕ) → c < length rows → seen_from rows d c ≡ false
none_seen rows depths d known is c below =
    rw is (ap not (lt-ltb (depth_of rows c) (length depths) (known.all c below)))

-- after the root
pub all_seen : (rows : List Row) (d c : ℕ) → d ≡ 0 → seen_from rows d c ≡ true
all_seen rows d c is = rw is (ap not (le-ltb (depth_of rows c) 0 (omega arith)))

-- before the first of a depth
pub first_seen : (rows : List Row) (d c : ℕ) → seen_at rows d 0 c ≡ seen_from rows (d + 1) c
first_seen rows d c = or-false (seen_from rows (d + 1) c)

-- after the last of a depth
pub last_seen : (rows : List Row) (d k c : ℕ) → c < length rows → length (rows_of_depth rows d) ≤ k
    → seen_from rows d c ≡ seen_at rows d k c
last_seen rows d k c below le =
    let whole : take k (rows_of_depth rows d) ≡ rows_of_depth rows d =
    take_all k (rows_of_depth rows d) le in
    rw whole (elim (cases_lt (depth_of rows c) d) [
      | inl lt ↦ ap not (lt-ltb (depth_of rows c) d lt)
          ∙ sym (rw (lt-ltb (depth_of rows c) (d + 1) (omega arith)) (false_from_ne_true _ (λ e.
          let r : (j : ℕ) × (j < k) × (j < length (rows_of_depth rows d))
          × (get_or (rows_of_depth rows d) j 0 ≡ c) =
          among (rows_of_depth rows d) k c (rw whole e) in
          let at : depth_of rows c ≡ d = rw r.3 at (depth_row rows d r.0 r.2).depth in
          omega (arith, at, lt))))
      | inr ge ↦ ap not (le-ltb (depth_of rows c) d ge) ∙ sym (elim (cases_eq (depth_of rows c) d) [
        | inl same ↦ rw (lt-ltb (depth_of rows c) (d + 1) (omega (arith, same)))
            (let r : (k : ℕ) × (k < length (rows_of_depth rows d))
            × (get_or (rows_of_depth rows d) k 0 ≡ c) = depth_has rows d c below same in
            list_any_at (λ h. h == c) (rows_of_depth rows d) r.0 0 r.1
            (eq-eqb (get_or (rows_of_depth rows d) r.0 0) c r.2))
        | inr other ↦ rw (le-ltb (depth_of rows c) (d + 1) (omega (arith, ge, other))) refl
      ])
    ])

-- one more of a depth
pub next_seen : (rows : List Row) (d k g c : ℕ) → k < length (rows_of_depth rows d)
    → g ≡ get_or (rows_of_depth rows d) k 0 →
    seen_at rows d (k + 1) c ≡ (seen_at rows d k c || eqb g c)
next_seen rows d k g c lt is =
    rw is (ap (λ (b : Bool). seen_from rows (d + 1) c || b)
    (list_any_more (λ h. h == c) (rows_of_depth rows d) k 0 lt)
    ∙ sym (or_assoc (seen_from rows (d + 1) c)
    (list_any (λ h. h == c) (take k (rows_of_depth rows d)))
    (get_or (rows_of_depth rows d) k 0 == c)))

-- it had not been seen, nor had the one above it
pub fresh : (rows : List Row) (d k g : ℕ) → k < length (rows_of_depth rows d)
    → g ≡ get_or (rows_of_depth rows d) k 0 → seen_at rows d k g ≡ false
fresh rows d k g lt is =
    let at : depth_of rows g ≡ d = ap (depth_of rows) is ∙ (depth_row rows d k lt).depth in
    rw (lt-ltb (depth_of rows g) (d + 1) (omega (arith, at))) (false_from_ne_true _ (λ e.
    let r : (j : ℕ) × (j < k) × (j < length (rows_of_depth rows d))
    × (get_or (rows_of_depth rows d) j 0 ≡ g) = among (rows_of_depth rows d) k g e in
    let up : get_or (rows_of_depth rows d) r.0 0 < get_or (rows_of_depth rows d) k 0 =
    depth_rises rows d r.0 k r.1 lt in
    omega (arith, up, r.3, is)))

pub parent_unseen : (rows : List Row) → AreTreeRows rows → (d k g p : ℕ)
    → k < length (rows_of_depth rows d) → g ≡ get_or (rows_of_depth rows d) k 0 →
    parent_of rows g ≡ Some p → seen_at rows d k p ≡ false
parent_unseen rows tree d k g p lt is e =
    let at : depth_of rows g ≡ d = ap (depth_of rows) is ∙ (depth_row rows d k lt).depth in
    let up : depth_of rows g ≡ depth_of rows p + 1 = depth_of-step rows tree g p e in
    rw (lt-ltb (depth_of rows p) (d + 1) (omega (arith, at, up))) (false_from_ne_true _ (λ f.
    let r : (j : ℕ) × (j < k) × (j < length (rows_of_depth rows d))
    × (get_or (rows_of_depth rows d) j 0 ≡ p) = among (rows_of_depth rows d) k p f in
    let beside : depth_of rows p ≡ d = rw r.3 at (depth_row rows d r.0 r.2).depth in
    omega (arith, beside, at, up)))

-- the groups from this row on
abbrev pub rows_from : ℕ → ℕ → Bool
rows_from n c = not (ltb c n)

-- before the last row
pub no_rows : (n c : ℕ) → c < n → rows_from n c ≡ false
no_rows n c lt = ap not (lt-ltb c n lt)

-- after the first row
pub all_rows : (n c : ℕ) → n ≡ 0 → rows_from n c ≡ true
all_rows n c is = rw is (ap not (le-ltb c 0 (omega arith)))

-- one row more
pub next_row : (g c : ℕ) → rows_from g c ≡ (rows_from (g + 1) c || eqb g c)
next_row g c = elim (cases_lt c g) [
  | inl lt ↦ ap not (lt-ltb c g lt)
      ∙ sym (rw (lt-ltb c (g + 1) (omega (arith, lt))) (ne_eqb g c (λ e. omega (arith, e, lt))))
  | inr ge ↦ ap not (le-ltb c g ge) ∙ sym (elim (cases_eq g c) [
    | inl same ↦ rw (lt-ltb c (g + 1) (omega (arith, same))) (eq-eqb g c same)
    | inr other ↦ rw (le-ltb c (g + 1) (omega (arith, ge, other))) refl
  ])
]

-- it had not been seen, nor had its parent
pub fresh_row : (g : ℕ) → rows_from (g + 1) g ≡ false
fresh_row g = no_rows (g + 1) g (omega arith)

pub parent_row_unseen : (rows : List Row) → AreTreeRows rows → (g p : ℕ) → parent_of rows g ≡ Some p
    → rows_from (g + 1) p ≡ false
parent_row_unseen rows tree g p e =
    let up : p < g = parent_lt rows tree g p e in
    no_rows (g + 1) p (omega (arith, up))
