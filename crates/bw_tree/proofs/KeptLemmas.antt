-- A kept snapshot stays one of its tree.
use Rattle.std.proofs.Common.{◌≡◌, inl, inr, ℕ, zero, suc, ◌<◌, ◌≤◌, Bool, true, false, List, []}
use Rattle.std.proofs.Common.{◌∷◌, length, get_or, set, take, map, Option, Some, None, position}
use Rattle.std.proofs.Common.{is_some, refl, sym, ap, subst, ◌∙◌, eqb, arith}
use Rattle.std.proofs.Math.Path.{fun_ext}
use Rattle.std.proofs.Math.ListN.{get_or-map}
use Rattle.std.proofs.Math.Seq.{map-set_same}
use Rattle.std.specs.Prelude.{IfSome, Vec}
use Rattle.std.specs.declared.alloc.Global.{Global}
use Rattle.std.specs.List.{IsDistinct}
use Rattle.std.proofs.lemmas.Bool.{cases_eq}
use Rattle.std.proofs.lemmas.List.{map-set, length-set, get_or-set_same, get_or-set_other}
use Rattle.std.proofs.lemmas.List.{get_or_default, set-get_or}
use Rattle.std.specs.Option.{option_map}
use Rattle.std.specs.Map.{keys_of, values_of}
use Rattle.bw_model.specs.declared.row.Row.{Row}
use Rattle.bw_model.specs.Host.{Shape}
use Rattle.bw_model.specs.declared.limits.TheConstants.{MAX_DEMAND}
use Rattle.bw_model.specs.Groups.{Groups, IsInstance, no_row, is_leaf, demand_of}
use Rattle.bw_model.specs.Groups.{row_of as row_there}
use Rattle.bw_model.specs.OneRow.{with_demand, with_limit}
use Rattle.bw_model.specs.Quota.{in_slices}
use Rattle.bw_model.proofs.CallerLemmas.{leaf_same}
use Rattle.bw_tree.specs.Groups.{GroupFields, TreeState, IsTree, IsSound}
use Rattle.bw_tree.specs.Tree.{changed_at, set_demand, with_setting, root_group}
use Rattle.bw_tree.specs.Tree.{set_carry}
use Rattle.bw_tree.specs.Snapshot.{row_above, row_of, rows_of, base_of, instance_of, quota_slices}
use Rattle.bw_tree.specs.Snapshot.{period_limit, bursting, carried, carried_at, left_over}
use Rattle.bw_tree.specs.Snapshot.{carried_over}
use Rattle.bw_tree.specs.Kept.{IsSnapshotOf, IsKept, demand_set, CanSetRow}
use Rattle.bw_tree.specs.Kept.{AreSound, on_host}
use Rattle.bw_tree.specs.declared.snapshot.Snapshot.{Snapshot}
use Rattle.bw_tree.proofs.BandwidthLemmas.{no_burst}
use Rattle.bw_tree.proofs.CarryLemmas.{written_at, length_carried, keys_carried}
use Rattle.bw_tree.proofs.CarryLemmas.{carried_IsTree}
use Rattle.bw_tree.proofs.PlaceLemmas.{stands_at, written_place}
use Rattle.bw_tree.proofs.SnapshotLemmas.{length_rows, value_at, tree_IsInstance, row_at}
use Rattle.bw_tree.proofs.SnapshotLemmas.{sound_at}

-- the row of the parent depends on the ids alone
above_same : (gs hs : List (ℕ × GroupFields)) → keys_of gs ≡ keys_of hs → (o : Option ℕ)
    → row_above gs o ≡ row_above hs o
above_same gs hs same None = refl
above_same gs hs same (Some id) = ap (position (eqb id)) same

pub row_same : (gs hs : List (ℕ × GroupFields)) → keys_of gs ≡ keys_of hs → (shape : Shape)
    (g : GroupFields) → row_of gs shape g ≡ row_of hs shape g
row_same gs hs same shape g =
    let made : Option ℕ → Row = λ o. record {
      parent = o;
      weight = g.weight;
      limit = period_limit shape g;
      demand = g.demand;
    } in
    ap made (above_same gs hs same g.parent)

-- a group that is written at its place
module _ (gs : List (ℕ × GroupFields)) (i : ℕ) (x : ℕ × GroupFields) (read : x ≡ get_or gs i x)
    (h : GroupFields) where
  pub keys_written : keys_of (set gs i (x.0, h)) ≡ keys_of gs
  keys_written = map-set_same (λ (e : ℕ × GroupFields). e.0) gs i (x.0, h) x
      (ap (λ (e : ℕ × GroupFields). e.0) read)

  pub rows_written : (shape : Shape)
      → rows_of (set gs i (x.0, h)) shape ≡ set (rows_of gs shape) i (row_of gs shape h)
  rows_written shape =
      ap (λ (f : GroupFields → Row). map f (values_of (set gs i (x.0, h))))
      (fun_ext (row_same (set gs i (x.0, h)) gs keys_written shape))
      ∙ ap (map (row_of gs shape)) (map-set (λ (e : ℕ × GroupFields). e.1) gs i (x.0, h))
      ∙ map-set (row_of gs shape) (values_of gs) i h

  pub base_written : (shape : Shape) → quota_slices shape h ≡ quota_slices shape x.1
      → base_of (set gs i (x.0, h)) shape ≡ base_of gs shape
  base_written shape same =
      ap (map (quota_slices shape)) (map-set (λ (e : ℕ × GroupFields). e.1) gs i (x.0, h))
      ∙ map-set_same (quota_slices shape) (values_of gs) i h x.1
      (same ∙ ap (quota_slices shape)
      (ap (λ (e : ℕ × GroupFields). e.1) read
      ∙ sym (get_or-map (λ (e : ℕ × GroupFields). e.1) gs i x)))

-- a demand that is set in the tree is set in its row
module _ (t : TreeState) (id i demand : ℕ) (place : position (eqb id) (keys_of t.groups) ≡ Some i)
    (shape : Shape) where
  within : i < length t.groups
  within = (stands_at t.groups id i place).within

  abbrev there : ℕ × GroupFields
  there = get_or t.groups i (0, root_group)

  read : there ≡ get_or t.groups i there
  read = get_or_default t.groups i (0, root_group) there within

  written : changed_at (set_demand demand) t.groups id
      ≡ set t.groups i (there.0, set_demand demand there.1)
  written = sym (written_place (set_demand demand) t.groups id i there place read)

  pub demand_instance : instance_of (with_setting (set_demand demand) t id) shape
      ≡ with_demand (instance_of t shape) i demand
  demand_instance =
      let made : List Row → Groups = λ rows. record { shape = shape; rows = rows } in
      ap made
      (ap (λ (es : List (ℕ × GroupFields)). rows_of es shape) written
      ∙ rows_written t.groups i there read (set_demand demand there.1) shape
      ∙ ap (λ (r : Row). set (rows_of t.groups shape) i (record r { demand = demand }))
      (value_at (row_of t.groups shape) t.groups i there no_row within read))

  -- a group with a demand is a leaf, since the rows stay an instance
  pub demand_leaf : IsTree (with_setting (set_demand demand) t id)
      → IsInstance (instance_of t shape) → 0 < demand
      → is_leaf (instance_of t shape).rows i ≡ true
  demand_leaf after before some =
      let rows = rows_of t.groups shape in
      let r : Row = record (row_there rows i) { demand = demand } in
      let long : i < length rows = omega (arith, within, length_rows t.groups shape) in
      let valid : IsInstance (with_demand (instance_of t shape) i demand) =
      subst IsInstance demand_instance (tree_IsInstance refl after shape before.host) in
      let has : demand_of (set rows i r) i ≡ demand =
      ap (λ (q : Row). q.demand) (get_or-set_same rows i r no_row long) in
      sym (leaf_same rows i r long refl i)
      ∙ by (is_leaf (set rows i r) i)
      (λ inner. has_none has
      (valid.inner_idle i (omega (arith, long, length-set rows i r)) inner))
    where
      has_none : {n : ℕ} → n ≡ demand → n ≡ 0 → ⊥
      has_none is none = omega (arith, some, is, none)

      by : (b : Bool) → (b ≡ false → ⊥) → b ≡ true
      by true other = refl
      by false other = absurd (other refl)

  pub demand_kept : IsTree (with_setting (set_demand demand) t id) → (kept : Option Snapshot)
      → IsKept kept t shape
      → IsKept (option_map (demand_set i demand) kept) (with_setting (set_demand demand) t id) shape
  demand_kept after None is = tt
  demand_kept after (Some snapshot) is =
      let rows = snapshot.instance.rows in
      let r : Row = record (row_there rows i) { demand = demand } in
      record {
        rows = ap (λ (groups : Groups). with_demand groups i demand) is.rows
            ∙ sym demand_instance;
        valid = tree_IsInstance refl after shape is.valid.host;
        ids = is.ids ∙ sym (ap keys_of written
            ∙ keys_written t.groups i there read (set_demand demand there.1));
        quotas = is.quotas ∙ sym (ap (λ (es : List (ℕ × GroupFields)). base_of es shape) written
            ∙ base_written t.groups i there read (set_demand demand there.1) shape refl);
        ids_long = is.ids_long ∙ sym (length-set rows i r);
        quotas_long = is.quotas_long ∙ sym (length-set rows i r);
        distinct = is.distinct;
      }

  -- the row can have the demand
  pub can_set_row : IsTree (with_setting (set_demand demand) t id) → demand ≤ MAX_DEMAND
      → (kept : Option Snapshot) → IsKept kept t shape → IfSome kept (CanSetRow i demand)
  can_set_row after small None is = tt
  can_set_row after small (Some snapshot) is = record {
    valid = subst IsInstance (sym is.rows) is.valid;
    small = small;
    within = subst (λ (groups : Groups). i < length groups.rows) (sym is.rows)
        (omega (arith, within, length_rows t.groups shape));
    leaf = λ some. ap (λ (groups : Groups). is_leaf groups.rows i) is.rows
        ∙ demand_leaf after is.valid some;
  }

-- a snapshot that is kept stays
pub demand_stays : (place demand : ℕ) (kept : Option Snapshot)
    → is_some (option_map (demand_set place demand) kept) ≡ is_some kept
demand_stays place demand None = refl
demand_stays place demand (Some snapshot) = refl

-- ---- what a period leaves over

length_at : (gs : List (ℕ × GroupFields)) (i carry : ℕ)
    → length (carried_at gs i carry) ≡ length gs
length_at [] i carry = refl
length_at (e ∷ es) zero carry = refl
length_at (e ∷ es) (suc i) carry = ap suc (length_at es i carry)

pub base_carried : (gs : List (ℕ × GroupFields)) (cs : List ℕ) (shape : Shape)
    → base_of (carried gs cs) shape ≡ base_of gs shape
base_carried gs [] shape = refl
base_carried [] (c ∷ cs) shape = refl
base_carried (e ∷ es) (c ∷ cs) shape =
    ap (λ (xs : List (Option ℕ)). quota_slices shape e.1 ∷ xs) (base_carried es cs shape)

-- a group whose place is still to come is as it was
still_there : (gs : List (ℕ × GroupFields)) (cs : List ℕ) (i : ℕ) (d : ℕ × GroupFields)
    → get_or (carried gs (take i cs)) i d ≡ get_or gs i d
still_there [] cs i d = none (take i cs)
  where
    none : (ds : List ℕ) → get_or (carried [] ds) i d ≡ get_or {A = ℕ × GroupFields} [] i d
    none [] = refl
    none (c ∷ ds) = refl
still_there (e ∷ es) cs zero d = refl
still_there (e ∷ es) [] (suc i) d = refl
still_there (e ∷ es) (c ∷ cs) (suc i) d = still_there es cs i d

-- so is its limit
pub limit_still : (gs : List (ℕ × GroupFields)) (cs : List ℕ) (i : ℕ) (shape : Shape) (r : Row)
    → i < length gs
    → (get_or (rows_of (carried gs (take i cs)) shape) i r).limit
    ≡ (get_or (rows_of gs shape) i r).limit
limit_still gs cs i shape r within =
    let d : ℕ × GroupFields = (0, root_group) in
    let now = carried gs (take i cs) in
    ap (λ (q : Row). q.limit)
    (row_at now shape i d r (omega (arith, within, length_carried gs (take i cs))))
    ∙ ap (λ (e : ℕ × GroupFields). period_limit shape e.1) (still_there gs cs i d)
    ∙ sym (ap (λ (q : Row). q.limit) (row_at gs shape i d r within))

-- the groups of a tree are sound
pub tree_sound : (t : TreeState) → IsTree t → AreSound t.groups
tree_sound t ok i x within is = sound_at t ok i x within is

sound_carry : (carry : ℕ) (g : GroupFields) → IsSound g → IsSound (set_carry carry g)
sound_carry carry g was = record {
  some_weight = was.some_weight;
  weight = was.weight;
  quota = was.quota;
  long_period = was.long_period;
  short_period = was.short_period;
  burst = was.burst;
  demand = was.demand;
}

-- a group that had no limit gets none
none_stays : (shape : Shape) (carry : ℕ) (g : GroupFields) → period_limit shape g ≡ None
    → period_limit shape (set_carry carry g) ≡ None
none_stays shape carry g none = by (quota_slices shape g) none
  where
    by : (o : Option ℕ) → bursting g.carry (in_slices shape g.period g.burst) o ≡ None
        → bursting carry (in_slices shape g.period g.burst) o ≡ None
    by None h = refl
    by (Some q) h = absurd (let wrong : ⊥ = cc in wrong)

-- the limit that a row has is set again
pub limit_again : (groups : Groups) (i : ℕ) (limit : Option ℕ)
    → (row_there groups.rows i).limit ≡ limit → with_limit groups i limit ≡ groups
limit_again groups i limit same =
    let made : List Row → Groups = λ rows. record { shape = groups.shape; rows = rows } in
    ap (λ o. with_limit groups i o) (sym same) ∙ ap made (set-get_or groups.rows i no_row)

-- a group that carries
module _ (gs : List (ℕ × GroupFields)) (i carry : ℕ) (within : i < length gs) where
  abbrev pub was : ℕ × GroupFields
  was = get_or gs i (0, root_group)

  was_read : was ≡ get_or gs i was
  was_read = get_or_default gs i (0, root_group) was within

  abbrev after : List (ℕ × GroupFields)
  after = set gs i (was.0, set_carry carry was.1)

  -- the row's limit is the group's
  pub row_limit : (shape : Shape) (groups : Groups) → groups ≡ on_host gs shape
      → (row_there groups.rows i).limit ≡ period_limit shape was.1
  row_limit shape groups is =
      ap (λ (g : Groups). (row_there g.rows i).limit) is
      ∙ sym (ap (λ (r : Row). r.limit)
      (value_at (row_of gs shape) gs i was no_row within was_read))

  -- without a burst the limit stays
  pub limit_steady : (shape : Shape) (groups : Groups) → groups ≡ on_host gs shape
      → was.1.burst ≡ 0
      → (row_there groups.rows i).limit ≡ period_limit shape (set_carry carry was.1)
  limit_steady shape groups is none =
      row_limit shape groups is ∙ no_burst shape was.1.carry was.1 none
      ∙ sym (no_burst shape carry was.1 none)

  module _ (new : List (ℕ × GroupFields)) (made : new ≡ carried_at gs i carry) where
    pub still_within : i < length new
    still_within = omega (arith, within, ap length made, length_at gs i carry)

    -- it is read again
    pub carrying : (y : ℕ × GroupFields) → y ≡ get_or new i y → y.1 ≡ set_carry carry was.1
    carrying y read =
        ap (λ (e : ℕ × GroupFields). e.1)
        (read ∙ ap (λ (es : List (ℕ × GroupFields)). get_or es i y)
        (made ∙ sym (written_at gs i carry was was_read))
        ∙ get_or-set_same gs i (was.0, set_carry carry was.1) y within)

    -- the groups stay sound
    pub carry_sound : AreSound gs → AreSound new
    carry_sound sound = subst AreSound (written_at gs i carry was was_read ∙ sym made)
        (λ k y lt is. elim (cases_eq k i) [
          | inl same ↦
              let here : y ≡ (was.0, set_carry carry was.1) =
              is ∙ ap (λ j. get_or after j y) same
              ∙ get_or-set_same gs i (was.0, set_carry carry was.1) y within in
              subst (λ (z : ℕ × GroupFields). IsSound z.1) (sym here)
              (sound_carry carry was.1 (sound i was within was_read))
          | inr other ↦
              sound k y (omega (arith, lt, length-set gs i (was.0, set_carry carry was.1)))
              (is ∙ get_or-set_other gs i k (was.0, set_carry carry was.1) y other)
        ])

    -- so is the one that carries
    pub sound_there : AreSound gs → (y : ℕ × GroupFields) → y ≡ get_or new i y → IsSound y.1
    sound_there sound y read = carry_sound sound i y still_within read

    -- the row with the new limit is the row of the group that carries
    pub carry_step : (shape : Shape) (groups : Groups) → groups ≡ on_host gs shape
        → with_limit groups i (period_limit shape (set_carry carry was.1)) ≡ on_host new shape
    carry_step shape groups is =
        let limit = period_limit shape (set_carry carry was.1) in
        let made_of : List Row → Groups = λ rows. record { shape = shape; rows = rows } in
        ap (λ (g : Groups). with_limit g i limit) is
        ∙ ap made_of
        (ap (λ (r : Row). set (rows_of gs shape) i (record r { limit = limit }))
        (sym (value_at (row_of gs shape) gs i was no_row within was_read))
        ∙ sym (rows_written gs i was was_read (set_carry carry was.1) shape)
        ∙ ap (λ (es : List (ℕ × GroupFields)). rows_of es shape)
        (written_at gs i carry was was_read ∙ sym made))

    -- without a limit nothing changes
    pub unlimited_step : (shape : Shape) (groups : Groups) → groups ≡ on_host gs shape
        → (row_there groups.rows i).limit ≡ None → groups ≡ on_host new shape
    unlimited_step shape groups is none =
        let stays : (row_there groups.rows i).limit ≡ period_limit shape (set_carry carry was.1) =
        none ∙ sym (none_stays shape carry was.1 (sym (row_limit shape groups is) ∙ none)) in
        sym (limit_again groups i (period_limit shape (set_carry carry was.1)) stays)
        ∙ carry_step shape groups is

-- the tree after a period, and the snapshot with the limits of the next one
pub carried_snapshot : (t : TreeState) (shape : Shape) (drawn : List ℕ) (old new : Snapshot)
    → IsTree t → IsSnapshotOf old t shape
    → new.instance ≡ on_host (carried t.groups (left_over old.instance.rows drawn)) shape
    → new.ids ≡ old.ids → new.quotas ≡ old.quotas
    → IsSnapshotOf new (carried_over t old.instance.rows drawn) shape
carried_snapshot t shape drawn old new ok is step ids quotas =
    let cs = left_over old.instance.rows drawn in
    let gs = carried t.groups cs in
    let after : IsTree (record { groups = gs; next = t.next }) = carried_IsTree t cs ok in
    let long : length new.instance.rows ≡ length old.instance.rows =
    ap (λ (g : Groups). length g.rows) step ∙ length_rows gs shape ∙ length_carried t.groups cs
    ∙ sym (length_rows t.groups shape) ∙ ap (λ (g : Groups). length g.rows) (sym is.rows) in
    record {
      rows = step;
      valid = tree_IsInstance refl after shape is.valid.host;
      ids = ap (λ (v : Vec ℕ Global). v.items) ids ∙ is.ids ∙ sym (keys_carried t.groups cs);
      quotas = ap (λ (v : Vec (Option ℕ) Global). v.items) quotas ∙ is.quotas
          ∙ sym (base_carried t.groups cs shape);
      ids_long = ap (λ (v : Vec ℕ Global). length v.items) ids ∙ is.ids_long ∙ sym long;
      quotas_long = ap (λ (v : Vec (Option ℕ) Global). length v.items) quotas ∙ is.quotas_long
          ∙ sym long;
      distinct = subst (λ (v : Vec ℕ Global). IsDistinct eqb v.items) (sym ids) is.distinct;
    }
