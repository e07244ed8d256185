-- Which groups a walk from the root down has done, depth by depth.
use Rattle.std.proofs.Common.{◌≡◌, ℕ, ◌+◌, ◌<◌, ◌≤◌, ◌==◌, ◌||◌, Bool, true, false, eqb, List, take}
use Rattle.std.proofs.Common.{length, get_or, Some, Vec, refl, sym, ap, ◌∙◌, arith, inl}
use Rattle.std.proofs.Common.{inr}
use Rattle.std.specs.List.{list_any}
use Rattle.std.specs.declared.alloc.Global.{Global}
use Rattle.std.proofs.Math.Bool.{or-false, or_assoc}
use Rattle.std.proofs.lemmas.Bool.{cases_lt, cases_eq, eq-eqb, ltb-true, lt-ltb, le-ltb, or_cases}
use Rattle.std.proofs.lemmas.Bool.{or_left, false_from_ne_true}
use Rattle.std.proofs.lemmas.List.{take_all}
use Rattle.std.proofs.lemmas.List.Folds.{list_any_more, list_any_at}
use Rattle.bw_model.specs.declared.row.Row.{Row}
use Rattle.bw_model.specs.Groups.{AreTreeRows, parent_of, is_leaf, depth_of}
use Rattle.bw_model.proofs.CallerLemmas.{inner_has_child, depth_of-step}
use Rattle.bw_demand.specs.ByDepth.{rows_of_depth, AreByDepth}
use Rattle.bw_demand.proofs.CallerLemmas.{depth_row, depth_rises, depth_has, among}
use Rattle.bw_plan.specs.Shared.{is_above}

-- the groups above this depth, and the first k of those at it
abbrev pub done_at : List Row → ℕ → ℕ → ℕ → Bool
done_at rows d k h = is_above rows d h || list_any (λ x. x == h) (take k (rows_of_depth rows d))

pub none_above : (rows : List Row) (h : ℕ) → is_above rows 0 h ≡ false
none_above rows h = le-ltb (depth_of rows h) 0 (omega arith)

-- the groups of the greatest depth have no children
pub inner_above : (rows : List Row) → AreTreeRows rows → (depths : List (Vec ℕ Global)) (d : ℕ)
    → AreByDepth rows depths → length depths ≤ d + 1 →
    (h : ℕ) → is_leaf rows h ≡ false → is_above rows d h ≡ true
inner_above rows tree depths d known le h inner =
    let child : (c : ℕ) × (c < length rows) × (parent_of rows c ≡ Some h) =
    inner_has_child rows h inner in
    let at : depth_of rows child.0 < length depths = known.all child.0 child.1 in
    let step : depth_of rows child.0 ≡ depth_of rows h + 1 =
    depth_of-step rows tree child.0 h child.2 in
    lt-ltb (depth_of rows h) d (omega (arith, at, le, step))

pub first_done : (rows : List Row) (d h : ℕ) → done_at rows d 0 h ≡ is_above rows d h
first_done rows d h = or-false (is_above rows d h)

pub last_done : (rows : List Row) (d k h : ℕ) → h < length rows → length (rows_of_depth rows d) ≤ k
    → is_above rows (d + 1) h ≡ done_at rows d k h
last_done rows d k h below le =
    let whole : take k (rows_of_depth rows d) ≡ rows_of_depth rows d =
    take_all k (rows_of_depth rows d) le in
    rw whole (elim (cases_lt (depth_of rows h) d) [
      | inl lt ↦ lt-ltb (depth_of rows h) (d + 1) (omega (arith, lt))
          ∙ sym (rw (lt-ltb (depth_of rows h) d lt) refl)
      | inr ge ↦ elim (cases_eq (depth_of rows h) d) [
        | inl same ↦ lt-ltb (depth_of rows h) (d + 1) (omega (arith, same))
            ∙ sym (rw (le-ltb (depth_of rows h) d ge)
            (let r : (k : ℕ) × (k < length (rows_of_depth rows d))
            × (get_or (rows_of_depth rows d) k 0 ≡ h) = depth_has rows d h below same in
            list_any_at (λ x. x == h) (rows_of_depth rows d) r.0 0 r.1
            (eq-eqb (get_or (rows_of_depth rows d) r.0 0) h r.2)))
        | inr other ↦ le-ltb (depth_of rows h) (d + 1) (omega (arith, ge, other))
            ∙ sym (rw (le-ltb (depth_of rows h) d ge) (false_from_ne_true _ (λ e.
            let r : (j : ℕ) × (j < k) × (j < length (rows_of_depth rows d))
            × (get_or (rows_of_depth rows d) j 0 ≡ h) =
            among (rows_of_depth rows d) k h (rw whole e) in
            let at : depth_of rows h ≡ d = rw r.3 at (depth_row rows d r.0 r.2).depth in
            other at)))
      ]
    ])

pub next_done : (rows : List Row) (d k g h : ℕ) → k < length (rows_of_depth rows d)
    → g ≡ get_or (rows_of_depth rows d) k 0 →
    done_at rows d (k + 1) h ≡ (done_at rows d k h || eqb g h)
next_done rows d k g h lt is =
    rw is (ap (λ (b : Bool). is_above rows d h || b)
    (list_any_more (λ x. x == h) (rows_of_depth rows d) k 0 lt)
    ∙ sym (or_assoc (is_above rows d h) (list_any (λ x. x == h) (take k (rows_of_depth rows d)))
    (get_or (rows_of_depth rows d) k 0 == h)))

pub fresh : (rows : List Row) (d k g : ℕ) → k < length (rows_of_depth rows d)
    → g ≡ get_or (rows_of_depth rows d) k 0 → done_at rows d k g ≡ false
fresh rows d k g lt is =
    let at : depth_of rows g ≡ d = ap (depth_of rows) is ∙ (depth_row rows d k lt).depth in
    rw (le-ltb (depth_of rows g) d (omega (arith, at))) (false_from_ne_true _ (λ e.
    let r : (j : ℕ) × (j < k) × (j < length (rows_of_depth rows d))
    × (get_or (rows_of_depth rows d) j 0 ≡ g) = among (rows_of_depth rows d) k g e in
    let up : get_or (rows_of_depth rows d) r.0 0 < get_or (rows_of_depth rows d) k 0 =
    depth_rises rows d r.0 k r.1 lt in
    omega (arith, up, r.3, is)))

-- what is done is no deeper, and what is less deep is done
pub not_deeper : (rows : List Row) (d k h : ℕ) → done_at rows d k h ≡ true → depth_of rows h ≤ d
not_deeper rows d k h e =
    elim (or_cases (is_above rows d h) (list_any (λ x. x == h) (take k (rows_of_depth rows d))) e) [
      | inl up ↦ let lt : depth_of rows h < d = ltb-true (depth_of rows h) d up in omega (arith, lt)
      | inr here ↦
          let r : (j : ℕ) × (j < k) × (j < length (rows_of_depth rows d))
          × (get_or (rows_of_depth rows d) j 0 ≡ h) = among (rows_of_depth rows d) k h here in
          let at : depth_of rows h ≡ d = rw r.3 at (depth_row rows d r.0 r.2).depth in
          omega (arith, at)
    ]

less_deep : (rows : List Row) (d k p : ℕ) → depth_of rows p < d → done_at rows d k p ≡ true
less_deep rows d k p lt = or_left (is_above rows d p)
    (list_any (λ x. x == p) (take k (rows_of_depth rows d))) (lt-ltb (depth_of rows p) d lt)

pub closed : (rows : List Row) → AreTreeRows rows → (d k h p : ℕ) → done_at rows d k h ≡ true
    → parent_of rows h ≡ Some p → done_at rows d k p ≡ true
closed rows tree d k h p e up =
    let le : depth_of rows h ≤ d = not_deeper rows d k h e in
    let step : depth_of rows h ≡ depth_of rows p + 1 = depth_of-step rows tree h p up in
    less_deep rows d k p (omega (arith, le, step))

pub parent_done : (rows : List Row) → AreTreeRows rows → (d k g p : ℕ) → depth_of rows g ≡ d
    → parent_of rows g ≡ Some p → done_at rows d k p ≡ true
parent_done rows tree d k g p at up =
    let step : depth_of rows g ≡ depth_of rows p + 1 = depth_of-step rows tree g p up in
    less_deep rows d k p (omega (arith, at, step))

pub parent_above : (rows : List Row) → AreTreeRows rows → (d g p : ℕ) → depth_of rows g ≡ d
    → parent_of rows g ≡ Some p → is_above rows d p ≡ true
parent_above rows tree d g p at up =
    let step : depth_of rows g ≡ depth_of rows p + 1 = depth_of-step rows tree g p up in
    lt-ltb (depth_of rows p) d (omega (arith, at, step))

-- the rows of a depth are no children of one another
pub no_child : (rows : List Row) → AreTreeRows rows → (d g h : ℕ) → depth_of rows g ≡ d
    → depth_of rows h ≡ d → parent_of rows h ≡ Some g → ⊥
no_child rows tree d g h one two up =
    let step : depth_of rows h ≡ depth_of rows g + 1 = depth_of-step rows tree h g up in
    omega (arith, one, two, step)
