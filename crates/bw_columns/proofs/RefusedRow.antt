-- Rows that have a fault, and the refusal.
use Rattle.std.proofs.Common.{◌≡◌, ℕ, suc, ◌+◌, ◌<◌, ◌≤◌, ◌==◌, List, [], ◌∷◌, Bool, true}
use Rattle.std.proofs.Common.{false, ◌||◌, not, Option, None, Some, length, get_or, refl, ap}
use Rattle.std.proofs.Common.{sym, ◌∙◌, arith, zero-add}
use Rattle.std.specs.Prelude.{nat_lt, is_some, if◌then◌else◌}
use Rattle.std.specs.List.{list_any, list_all, enumerate_from}
use Rattle.std.proofs.lemmas.Bool.{and_parts, and_from, eqb-true, not-false, not-true}
use Rattle.std.proofs.lemmas.Bool.{ne_eqb, le-ltb, lt-ltb}
use Rattle.std.proofs.lemmas.List.Folds.{list_any_at, list_any_none, list_all_at}
use Rattle.std.proofs.lemmas.List.FromFn.{get_or-map-range_with_len, length-map-range_with_len}
use Rattle.std.proofs.lemmas.List.FromFn.{get_or-enumerate_from, length-enumerate_from}
use Rattle.std.proofs.lemmas.List.{get_or_default, get_or_past}
use Rattle.bw_model.specs.declared.limits.TheConstants.{MAX_GROUPS, MIN_WEIGHT, MAX_WEIGHT}
use Rattle.bw_model.specs.declared.limits.TheConstants.{MAX_DEPTH, MAX_DEMAND}
use Rattle.bw_model.specs.declared.row.Row.{Row}
use Rattle.bw_model.specs.declared.instance_fault.InstanceFault.{InstanceFault}
use Rattle.bw_model.specs.declared.instance_fault.InstanceFault.TheVariants.{TooMany, BadParent}
use Rattle.bw_model.specs.declared.instance_fault.InstanceFault.TheVariants.{BadWeight, TooDeep}
use Rattle.bw_model.specs.declared.instance_fault.InstanceFault.TheVariants.{InnerDemand}
use Rattle.bw_model.specs.declared.instance_fault.InstanceFault.TheVariants.{DemandTooLarge}
use Rattle.bw_model.specs.declared.instance_fault.InstanceFault.TheVariants.{RootLimited}
use Rattle.bw_model.specs.Groups.{AreTreeRows, no_row, row_of, parent_of, demand_of}
use Rattle.bw_model.specs.Groups.{depth_of}
use Rattle.bw_model.specs.Refusal.{is_earlier, are_earlier, depths_of, demand_above}
use Rattle.bw_model.specs.Refusal.{is_root_limited, refusal}
use Rattle.bw_model.proofs.CallerLemmas.{earlier-AreTreeRows, depth_of-top, depth_of-step}
use Rattle.bw_columns.specs.Asked.{Table, row_in, rows_in}
use Rattle.bw_columns.specs.RefusedRow.{IsFirstRow, IsNoRow}
use Rattle.bw_columns.proofs.Asked.{rows_length}

-- row g of the columns
pub row_of-rows_in : (table : Table) (g : ℕ) → g < length table.parents
    → row_in table g ≡ row_of (rows_in table) g
row_of-rows_in table g within =
    sym (get_or-map-range_with_len (row_in table) 0 (length table.parents) g g no_row within
    (zero-add g))

-- a parent that is not earlier
pub misplaced : (rows : List Row) (g : ℕ) → IsFirstRow rows BadParent g → are_earlier rows ≡ false
misplaced rows g first =
    let d : ℕ × Row = (0, no_row) in
    let long : g < length (enumerate_from 0 rows) = rw length-enumerate_from first.within in
    list_all_at (λ (p : ℕ × Row). is_earlier p.0 p.1.parent) (enumerate_from 0 rows) g d long
    (ap (λ (p : ℕ × Row). is_earlier p.0 p.1.parent) (get_or-enumerate_from 0 rows g d first.within)
    ∙ ap (λ (n : ℕ). is_earlier n (parent_of rows g)) (zero-add g)
    ∙ not-true _ first.faulty)

-- whether the rows from a place on are after their parents
earlier_from : (at : ℕ) (rows : List Row)
    → ((k : ℕ) → k < length rows → is_earlier (at + k) (get_or rows k no_row).parent ≡ true)
    → list_all (λ p. is_earlier p.0 p.1.parent) (enumerate_from at rows) ≡ true
earlier_from at [] each = refl
earlier_from at (r ∷ rows) each =
    let here : is_earlier at r.parent ≡ true =
    ap (λ (n : ℕ). is_earlier n r.parent) (omega arith) ∙ each 0 (omega arith) in
    and_from _ _ here
    (earlier_from (at + 1) rows
    (λ k within. ap (λ (n : ℕ). is_earlier n (get_or rows k no_row).parent) (omega arith)
    ∙ each (suc k) (omega arith)))

-- each parent is earlier
pub placed : (rows : List Row) → IsNoRow rows BadParent → are_earlier rows ≡ true
placed rows none =
    earlier_from 0 rows
    (λ k within. ap (λ (n : ℕ). is_earlier n (get_or rows k no_row).parent) (zero-add k)
    ∙ not-false _ (none k within))

-- a test that a row passes
some_row : (test : Row → Bool) (rows : List Row) (g : ℕ) → g < length rows
    → test (row_of rows g) ≡ true → list_any test rows ≡ true
some_row test rows g within passes = list_any_at test rows g no_row within passes

-- a test that no row passes
no_row_passes : (test : Row → Bool) (rows : List Row)
    → ((k : ℕ) → k < length rows → test (row_of rows k) ≡ false) → list_any test rows ≡ false
no_row_passes test rows none =
    list_any_none test rows (λ k d within. ap test (get_or_default rows k d no_row within)
    ∙ none k within)

pub heavy : (rows : List Row) (g : ℕ) → IsFirstRow rows BadWeight g
    → list_any (λ r. nat_lt r.weight MIN_WEIGHT || nat_lt MAX_WEIGHT r.weight) rows ≡ true
heavy rows g first =
    some_row (λ (r : Row). nat_lt r.weight MIN_WEIGHT || nat_lt MAX_WEIGHT r.weight) rows g
    first.within first.faulty

pub not_heavy : (rows : List Row) → IsNoRow rows BadWeight
    → list_any (λ r. nat_lt r.weight MIN_WEIGHT || nat_lt MAX_WEIGHT r.weight) rows ≡ false
not_heavy rows none =
    no_row_passes (λ (r : Row). nat_lt r.weight MIN_WEIGHT || nat_lt MAX_WEIGHT r.weight) rows none

pub deep : (rows : List Row) (g : ℕ) → IsFirstRow rows TooDeep g
    → list_any (λ depth. nat_lt MAX_DEPTH depth) (depths_of rows) ≡ true
deep rows g first =
    let long : g < length (depths_of rows) =
    rw (length-map-range_with_len (depth_of rows) 0 (length rows)) first.within in
    list_any_at (nat_lt MAX_DEPTH) (depths_of rows) g 0 long
    (ap (nat_lt MAX_DEPTH)
    (get_or-map-range_with_len (depth_of rows) 0 (length rows) g g 0 first.within (zero-add g))
    ∙ first.faulty)

pub not_deep : (rows : List Row) → IsNoRow rows TooDeep
    → list_any (λ depth. nat_lt MAX_DEPTH depth) (depths_of rows) ≡ false
not_deep rows none =
    list_any_none (nat_lt MAX_DEPTH) (depths_of rows) (λ k d long.
    let within : k < length rows =
    rw (length-map-range_with_len (depth_of rows) 0 (length rows)) at long in
    ap (nat_lt MAX_DEPTH)
    (get_or-map-range_with_len (depth_of rows) 0 (length rows) k k d within (zero-add k))
    ∙ none k within)

pub demanding : (rows : List Row) (g : ℕ) → IsFirstRow rows InnerDemand g
    → list_any (λ r. nat_lt 0 (demand_above rows r.parent)) rows ≡ true
demanding rows g first =
    some_row (λ (r : Row). nat_lt 0 (demand_above rows r.parent)) rows g first.within first.faulty

pub not_demanding : (rows : List Row) → IsNoRow rows InnerDemand
    → list_any (λ r. nat_lt 0 (demand_above rows r.parent)) rows ≡ false
not_demanding rows none =
    no_row_passes (λ (r : Row). nat_lt 0 (demand_above rows r.parent)) rows none

pub large : (rows : List Row) (g : ℕ) → IsFirstRow rows DemandTooLarge g
    → list_any (λ r. nat_lt MAX_DEMAND r.demand) rows ≡ true
large rows g first =
    some_row (λ (r : Row). nat_lt MAX_DEMAND r.demand) rows g first.within first.faulty

pub not_large : (rows : List Row) → IsNoRow rows DemandTooLarge
    → list_any (λ r. nat_lt MAX_DEMAND r.demand) rows ≡ false
not_large rows none = no_row_passes (λ (r : Row). nat_lt MAX_DEMAND r.demand) rows none

root_limited : (rows : List Row) → is_some (row_of rows 0).limit ≡ is_root_limited rows
root_limited [] = refl
root_limited (r ∷ rows) = refl

pub limited : (rows : List Row) (g : ℕ) → IsFirstRow rows RootLimited g
    → is_root_limited rows ≡ true
limited rows g first =
    let both = and_parts _ _ first.faulty in
    let top : g ≡ 0 = eqb-true g 0 both.0 in
    sym (root_limited rows) ∙ ap (λ (n : ℕ). is_some (row_of rows n).limit) (sym top) ∙ both.1

pub not_limited : (rows : List Row) → 0 < length rows → IsNoRow rows RootLimited
    → is_root_limited rows ≡ false
not_limited rows some none = sym (root_limited rows) ∙ none 0 some

-- the tests that are passed before the rows have a tree
pub record AreSome (rows : List Row) : Type 0 where
  pub some : 0 < length rows
  pub few : length rows ≤ MAX_GROUPS

first_two : (rows : List Row) → AreSome rows → (are_placed : Bool) → are_earlier rows ≡ are_placed
    → (nat_lt MAX_GROUPS (length rows) ≡ false)
    × ((length rows == 0 || not (are_earlier rows)) ≡ not are_placed)
first_two rows held are_placed is = (
  le-ltb MAX_GROUPS (length rows) held.few,
  ap (λ (b : Bool). b || not (are_earlier rows))
      (ne_eqb (length rows) 0 (λ e. omega (arith, e, held.some)))
      ∙ ap not is,
)

pub refused_many : (rows : List Row) → MAX_GROUPS < length rows → refusal rows ≡ Some TooMany
refused_many rows many = rw (lt-ltb MAX_GROUPS (length rows) many)

pub refused_parent : (rows : List Row) (g : ℕ) → AreSome rows → IsFirstRow rows BadParent g
    → refusal rows ≡ Some BadParent
refused_parent rows g held first =
    let two = first_two rows held false (misplaced rows g first) in rw two.0 (rw two.1 refl)

pub refused_weight : (rows : List Row) (g : ℕ) → AreSome rows → IsNoRow rows BadParent
    → IsFirstRow rows BadWeight g → refusal rows ≡ Some BadWeight
refused_weight rows g held parents first =
    let two = first_two rows held true (placed rows parents) in
    rw two.0 (rw two.1 (rw (heavy rows g first) refl))

-- the tests that are passed before a fault of a tree
pub record ArePlaced (rows : List Row) : Type 0 where
  pub held : AreSome rows
  pub parents : IsNoRow rows BadParent
  pub weights : IsNoRow rows BadWeight

late : (rows : List Row) (rest : Option InstanceFault) → ArePlaced rows
    → (if list_any (λ depth. nat_lt MAX_DEPTH depth) (depths_of rows) then Some TooDeep
    else if list_any (λ r. nat_lt 0 (demand_above rows r.parent)) rows then Some InnerDemand
    else if list_any (λ r. nat_lt MAX_DEMAND r.demand) rows then Some DemandTooLarge
    else if is_root_limited rows then Some RootLimited
    else None) ≡ rest → refusal rows ≡ rest
late rows rest placed_rows is =
    let two = first_two rows placed_rows.held true (placed rows placed_rows.parents) in
    rw two.0 (rw two.1 (rw (not_heavy rows placed_rows.weights) is))

pub refused_deep : (rows : List Row) (g : ℕ) → ArePlaced rows → IsFirstRow rows TooDeep g
    → refusal rows ≡ Some TooDeep
refused_deep rows g held first = late rows _ held (rw (deep rows g first) refl)

pub refused_demand : (rows : List Row) (g : ℕ) → ArePlaced rows → IsNoRow rows TooDeep
    → IsFirstRow rows InnerDemand g → refusal rows ≡ Some InnerDemand
refused_demand rows g held shallow first =
    late rows _ held (rw (not_deep rows shallow) (rw (demanding rows g first) refl))

pub refused_large : (rows : List Row) (g : ℕ) → ArePlaced rows → IsNoRow rows TooDeep
    → IsNoRow rows InnerDemand → IsFirstRow rows DemandTooLarge g
    → refusal rows ≡ Some DemandTooLarge
refused_large rows g held shallow idle first =
    late rows _ held (rw (not_deep rows shallow) (rw (not_demanding rows idle)
    (rw (large rows g first) refl)))

pub refused_root : (rows : List Row) (g : ℕ) → ArePlaced rows → IsNoRow rows TooDeep
    → IsNoRow rows InnerDemand → IsNoRow rows DemandTooLarge → IsFirstRow rows RootLimited g
    → refusal rows ≡ Some RootLimited
refused_root rows g held shallow idle small first =
    late rows _ held (rw (not_deep rows shallow) (rw (not_demanding rows idle)
    (rw (not_large rows small) (rw (limited rows g first) refl))))

pub refused_none : (rows : List Row) → ArePlaced rows → IsNoRow rows TooDeep
    → IsNoRow rows InnerDemand → IsNoRow rows DemandTooLarge → IsNoRow rows RootLimited
    → refusal rows ≡ None
refused_none rows held shallow idle small free =
    late rows _ held (rw (not_deep rows shallow) (rw (not_demanding rows idle)
    (rw (not_large rows small) (rw (not_limited rows held.held.some free) refl))))

-- rows whose parents are earlier are of one tree
pub tree_of : (rows : List Row) → AreSome rows → IsNoRow rows BadParent → AreTreeRows rows
tree_of rows held parents =
    earlier-AreTreeRows rows (ne_eqb (length rows) 0 (λ e. omega (arith, e, held.some)))
    (placed rows parents)

-- the way up ends in time
pub shallow : (rows : List Row) → AreTreeRows rows → (g at steps : ℕ)
    → depth_of rows g ≡ depth_of rows at + steps → steps ≤ MAX_DEPTH → parent_of rows at ≡ None
    → nat_lt MAX_DEPTH (depth_of rows g) ≡ false
shallow rows tree g at steps depth few top =
    let none : depth_of rows at ≡ 0 = depth_of-top rows tree at top in
    le-ltb MAX_DEPTH (depth_of rows g) (omega (arith, depth, few, none))

-- the way up goes on
pub deeper : (rows : List Row) → AreTreeRows rows → (g at p steps : ℕ)
    → depth_of rows g ≡ depth_of rows at + steps → parent_of rows at ≡ Some p
    → depth_of rows g ≡ depth_of rows p + (steps + 1)
deeper rows tree g at p steps depth up =
    let more : depth_of rows at ≡ depth_of rows p + 1 = depth_of-step rows tree at p up in
    omega (arith, depth, more)

-- the way up has not ended in time
pub at_last : (rows : List Row) → AreTreeRows rows → (g at : ℕ) (o : Option ℕ)
    → depth_of rows g ≡ depth_of rows at + MAX_DEPTH → parent_of rows at ≡ o
    → is_some o ≡ nat_lt MAX_DEPTH (depth_of rows g)
at_last rows tree g at None depth top =
    sym (shallow rows tree g at MAX_DEPTH depth (omega arith) top)
at_last rows tree g at (Some p) depth up =
    let more : depth_of rows at ≡ depth_of rows p + 1 = depth_of-step rows tree at p up in
    sym (lt-ltb MAX_DEPTH (depth_of rows g) (omega (arith, depth, more)))

-- rows without any have a bad parent
pub refused_empty : (rows : List Row) → length rows ≡ 0 → refusal rows ≡ Some BadParent
refused_empty [] e = refl
refused_empty (r ∷ rows) e = absurd (omega (arith, e))

-- a parent that is no row has no demand
pub none_above : (rows : List Row) (p : ℕ) → length rows ≤ p → demand_of rows p ≡ 0
none_above rows p past = ap (λ (r : Row). r.demand) (get_or_past rows p no_row past)

-- the first row that is too many
pub first_many : (rows : List Row) → MAX_GROUPS < length rows → IsFirstRow rows TooMany MAX_GROUPS
first_many rows many = record {
  within = many;
  faulty = ap not (le-ltb MAX_GROUPS MAX_GROUPS (omega arith));
  before = λ k below. ap not (lt-ltb k MAX_GROUPS below);
}

-- rows that are neither none nor too many
pub some_of : (table : Table) → 0 < length table.parents → length table.parents ≤ MAX_GROUPS
    → AreSome (rows_in table)
some_of table some few =
    let long : length (rows_in table) ≡ length table.parents = rows_length table in
    record { some = omega (arith, long, some); few = omega (arith, long, few) }
