-- A row that follows the settings of its group.
use Rattle.std.proofs.Common.{◌≡◌, ℕ, zero, suc, ◌<◌, Bool, true, false, cond, List, [], ◌∷◌, length}
use Rattle.std.proofs.Common.{get_or, set, map, Option, Some, None, position, refl, sym, ap, subst}
use Rattle.std.proofs.Common.{◌∙◌, eqb, arith}
use Rattle.std.proofs.lemmas.List.{map-set, get_or-set_same, get_or_default, length-map}
use Rattle.std.specs.Map.{keys_of, values_of, set_value}
use Rattle.std.specs.List.{IsDistinct}
use Rattle.std.specs.Prelude.{Vec}
use Rattle.std.specs.declared.alloc.Global.{Global}
use Rattle.bw_model.specs.declared.row.Row.{Row}
use Rattle.bw_model.specs.Host.{Shape}
use Rattle.bw_model.specs.Groups.{Groups, IsInstance, no_row}
use Rattle.bw_model.specs.Groups.{row_of as row_there}
use Rattle.bw_model.specs.OneRow.{with_row}
use Rattle.bw_tree.specs.Groups.{GroupFields, TreeState, IsTree, group_at}
use Rattle.bw_tree.specs.Tree.{changed, changed_at, with_setting, root_group}
use Rattle.bw_tree.specs.Snapshot.{row_above, row_of, rows_of, base_of, instance_of, quota_slices}
use Rattle.bw_tree.specs.Snapshot.{period_limit}
use Rattle.bw_tree.specs.Kept.{IsSnapshotOf}
use Rattle.bw_tree.specs.declared.snapshot.Snapshot.{Snapshot}
use Rattle.bw_tree.proofs.KeptLemmas.{rows_written}
use Rattle.bw_tree.proofs.PlaceLemmas.{stands_at, key_there, written_place}
use Rattle.bw_tree.proofs.SnapshotLemmas.{value_at, root_first, length_rows}

keys_set : (gs : List (ℕ × GroupFields)) (id : ℕ) (g : GroupFields)
    → keys_of (set_value (eqb id) gs g) ≡ keys_of gs
keys_set [] id g = refl
keys_set (e ∷ es) id g = onto (eqb id e.0) (keys_set es id g)
  where
    onto : (b : Bool) → keys_of (set_value (eqb id) es g) ≡ keys_of es
        → keys_of (cond b ((e.0, g) ∷ es) (e ∷ set_value (eqb id) es g)) ≡ e.0 ∷ keys_of es
    onto true rest = refl
    onto false rest = ap (λ (ids : List ℕ). e.0 ∷ ids) rest

-- a setting leaves the ids
pub keys_same : (f : GroupFields → GroupFields) (gs : List (ℕ × GroupFields)) (id : ℕ)
    → keys_of (changed_at f gs id) ≡ keys_of gs
keys_same f gs id = by (group_at gs id)
  where
    by : (o : Option GroupFields) → keys_of (changed f gs id o) ≡ keys_of gs
    by None = refl
    by (Some g) = keys_set gs id (f g)

-- a group other than the root stands below it
pub below_root : (t : TreeState) → IsTree t → Shape → (id i : ℕ) → (id ≡ 0 → ⊥)
    → position (eqb id) (keys_of t.groups) ≡ Some i → 0 < i
below_root t ok shape id zero inner place =
    let d : ℕ × GroupFields = (0, root_group) in
    absurd (inner (sym (key_there t.groups id 0 d (stands_at t.groups id 0 place))
    ∙ (root_first t ok shape d no_row).key))
below_root t ok shape id (suc i) inner place = omega arith

-- a setting of the group with this id, which stands at this place
module _ (f : GroupFields → GroupFields) (t : TreeState) (id i : ℕ)
    (place : position (eqb id) (keys_of t.groups) ≡ Some i) where
  pub within : i < length t.groups
  within = (stands_at t.groups id i place).within

  abbrev was : ℕ × GroupFields
  was = get_or t.groups i (0, root_group)

  read : was ≡ get_or t.groups i was
  read = get_or_default t.groups i (0, root_group) was within

  -- the group after it
  abbrev is : GroupFields
  is = f was.1

  written : changed_at f t.groups id ≡ set t.groups i (was.0, is)
  written = sym (written_place f t.groups id i was place read)

  -- it is read there
  pub renewed : (y : ℕ × GroupFields) → y ≡ get_or (changed_at f t.groups id) i y → y.1 ≡ is
  renewed y at =
      ap (λ (e : ℕ × GroupFields). e.1)
      (at ∙ ap (λ (es : List (ℕ × GroupFields)). get_or es i y) written
      ∙ get_or-set_same t.groups i (was.0, is) y within)

  module _ (shape : Shape) where
    base_renewed : set (base_of t.groups shape) i (quota_slices shape is)
        ≡ base_of (changed_at f t.groups id) shape
    base_renewed = sym (
        ap (λ (es : List (ℕ × GroupFields)). base_of es shape) written
        ∙ ap (map (quota_slices shape))
        (map-set (λ (e : ℕ × GroupFields). e.1) t.groups i (was.0, is))
        ∙ map-set (quota_slices shape) (values_of t.groups) i is)

    module _ (parent_stays : (g : GroupFields) → (f g).parent ≡ g.parent)
        (demand_stays : (g : GroupFields) → (f g).demand ≡ g.demand) where
      abbrev made : Option ℕ → ℕ → Row
      made o d = record {
        parent = o;
        weight = is.weight;
        limit = period_limit shape is;
        demand = d;
      }

      row_is : row_of t.groups shape is ≡ made (row_there (rows_of t.groups shape) i).parent
          (row_there (rows_of t.groups shape) i).demand
      row_is =
          ap (λ (o : Option ℕ). made (row_above t.groups o) is.demand) (parent_stays was.1)
          ∙ ap (made (row_above t.groups was.1.parent)) (demand_stays was.1)
          ∙ ap (λ (r : Row). made r.parent r.demand)
          (value_at (row_of t.groups shape) t.groups i was no_row within read)

      rows_renewed : set (rows_of t.groups shape) i
          (made (row_there (rows_of t.groups shape) i).parent
          (row_there (rows_of t.groups shape) i).demand)
          ≡ rows_of (changed_at f t.groups id) shape
      rows_renewed = sym (
          ap (λ (es : List (ℕ × GroupFields)). rows_of es shape) written
          ∙ rows_written t.groups i was read is shape
          ∙ ap (set (rows_of t.groups shape) i) row_is)

      -- a snapshot whose row and quota are those of the group after it
      pub row_kept : (u : TreeState) → u ≡ with_setting f t id
          → IsInstance (instance_of u shape) → (old new : Snapshot) → IsSnapshotOf old t shape
          → (g : GroupFields) → g ≡ is
          → new.instance ≡ with_row old.instance i g.weight (period_limit shape g)
          → new.quotas.items ≡ set old.quotas.items i (quota_slices shape g)
          → new.ids ≡ old.ids
          → IsSnapshotOf new u shape
      row_kept u step valid old new kept g same row quota ids =
          let on_shape : List Row → Groups = λ rows. record { shape = shape; rows = rows } in
          let rows : new.instance ≡ instance_of u shape =
          row
          ∙ ap (λ (h : GroupFields). with_row old.instance i h.weight (period_limit shape h)) same
          ∙ ap (λ (q : Groups). with_row q i is.weight (period_limit shape is)) kept.rows
          ∙ ap on_shape rows_renewed
          ∙ ap (λ (v : TreeState). instance_of v shape) (sym step) in
          let keys : new.ids.items ≡ keys_of u.groups =
          ap (λ (v : Vec ℕ Global). v.items) ids ∙ kept.ids ∙ sym (keys_same f t.groups id)
          ∙ ap (λ (v : TreeState). keys_of v.groups) (sym step) in
          let quotas : new.quotas.items ≡ base_of u.groups shape =
          quota ∙ ap (λ (h : GroupFields). set old.quotas.items i (quota_slices shape h)) same
          ∙ ap (λ (qs : List (Option ℕ)). set qs i (quota_slices shape is)) kept.quotas
          ∙ base_renewed
          ∙ ap (λ (v : TreeState). base_of v.groups shape) (sym step) in
          let long : length u.groups ≡ length new.instance.rows =
          sym (length_rows u.groups shape) ∙ sym (ap (λ (q : Groups). length q.rows) rows) in
          record {
            rows = rows;
            valid = valid;
            ids = keys;
            quotas = quotas;
            ids_long = ap (λ (xs : List ℕ). length xs) keys
                ∙ length-map u.groups (λ (e : ℕ × GroupFields). e.0) ∙ long;
            quotas_long = ap (λ (xs : List (Option ℕ)). length xs) quotas
                ∙ length-map (values_of u.groups) (quota_slices shape)
                ∙ length-map u.groups (λ (e : ℕ × GroupFields). e.1) ∙ long;
            distinct = subst (λ (v : Vec ℕ Global). IsDistinct eqb v.items) (sym ids)
                kept.distinct;
          }
