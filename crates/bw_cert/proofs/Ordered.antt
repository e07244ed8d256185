-- Rows that are in order, one by one, are those of an instance.
use Rattle.std.proofs.Common.{◌≡◌, ℕ, ◌+◌, ◌<◌, ◌≤◌, List, false, Option, None, Some, length, get_or}
use Rattle.std.proofs.Common.{set, refl, ap, subst, sym, ◌∙◌, arith, inl, inr}
use Rattle.std.proofs.lemmas.Bool.{cases_eq}
use Rattle.std.proofs.lemmas.List.{get_or-set_same, get_or-set_other}
use Rattle.bw_model.specs.declared.row.Row.{Row}
use Rattle.bw_model.specs.declared.limits.TheConstants.{MAX_GROUPS, MAX_DEPTH}
use Rattle.bw_model.specs.declared.instance_fault.InstanceFault.{InstanceFault}
use Rattle.bw_model.specs.declared.instance_fault.InstanceFault.TheVariants.{TooMany, BadParent}
use Rattle.bw_model.specs.declared.instance_fault.InstanceFault.TheVariants.{BadWeight}
use Rattle.bw_model.specs.Host.{IsHost}
use Rattle.bw_model.specs.Groups.{Groups, AreTreeRows, IsInstance, row_of, parent_of, demand_of}
use Rattle.bw_model.specs.Groups.{is_leaf, depth_of}
use Rattle.bw_model.specs.Refusal.{IsLate}
use Rattle.bw_model.proofs.CallerLemmas.{inner_has_child, strong, depth_of-top, depth_of-step}
use Rattle.bw_cert.specs.Order.{IsPlaced, IsInOrder, AreInOrder}

-- what is not refused is not refused early
pub late_none : (r : Option InstanceFault) → r ≡ None → IsLate r
late_none r e = (
  λ s. let clash : None ≡ Some TooMany = sym e ∙ s in cc,
  λ s. let clash : None ≡ Some BadParent = sym e ∙ s in cc,
  λ s. let clash : None ≡ Some BadWeight = sym e ∙ s in cc,
)

module _ (rows : List Row) (depths : List ℕ) (g v : ℕ) (there : g < length depths) where
  -- the depths of earlier rows are kept
  kept : (k d : ℕ) (o : Option ℕ) → k ≤ g → IsPlaced rows depths k o d
      → IsPlaced rows (set depths g v) k o d
  kept k d None below placed = placed
  kept k d (Some p) below placed = (
    placed.0,
    placed.1,
    placed.2 ∙ ap (λ (x : ℕ). x + 1)
        (sym (get_or-set_other depths g p v 0 (λ e. omega (arith, e, below, placed.0)))),
    placed.3,
  )

  kept_row : (k d : ℕ) → k ≤ g → IsInOrder rows depths k d → IsInOrder rows (set depths g v) k d
  kept_row k d below known = record {
    in_range = known.in_range;
    placed = kept k d (row_of rows k).parent below known.placed;
    unlimited = known.unlimited;
  }

  -- one row more is in order
  pub ordered_more : ((k : ℕ) → k < g → IsInOrder rows depths k (get_or depths k 0))
      → IsInOrder rows depths g v
      → (k : ℕ) → k < g + 1 → IsInOrder rows (set depths g v) k (get_or (set depths g v) k 0)
  ordered_more each here k below = elim (cases_eq k g) [
    | inl same ↦ rw (same, get_or-set_same depths g v 0 there) (kept_row g v (omega arith) here)
    | inr other ↦ rw (get_or-set_other depths g k v 0 other)
        (kept_row k (get_or depths k 0) (omega (arith, below, other))
        (each k (omega (arith, below, other))))
  ]

module _ (rows : List Row) (depths : List ℕ) where
  top : (o : Option ℕ) (d : ℕ) → IsPlaced rows depths 0 o d → o ≡ None
  top None d placed = refl
  top (Some p) d placed = absurd (let below : p < 0 = placed.0 in omega arith)

  before : (o : Option ℕ) (g d : ℕ) → 0 < g → IsPlaced rows depths g o d
      → (p : ℕ) × (o ≡ Some p) × (p < g)
  before None g d positive placed =
      absurd (let none : g ≡ 0 = placed.0 in omega (arith, positive, none))
  before (Some p) g d positive placed = (p, refl, placed.0)

  not_deep : (o : Option ℕ) (g d : ℕ) → IsPlaced rows depths g o d → d ≤ MAX_DEPTH
  not_deep None g d placed = let none : d ≡ 0 = placed.1 in omega (arith, none)
  not_deep (Some p) g d placed = placed.3

module _ (groups : Groups) (host : IsHost groups.shape) (some : 0 < length groups.rows)
    (few : length groups.rows ≤ MAX_GROUPS) (ordered : AreInOrder groups.rows) where
  placed_at : (g : ℕ) → g < length groups.rows
      → IsPlaced groups.rows ordered.depths g (parent_of groups.rows g) (get_or ordered.depths g 0)
  placed_at g below = (ordered.each g below).placed

  tree : AreTreeRows groups.rows
  tree = record {
    has_root = some;
    root_on_top = top groups.rows ordered.depths (parent_of groups.rows 0)
        (get_or ordered.depths 0 0) (placed_at 0 some);
    parent_before = λ g positive below.
        before groups.rows ordered.depths (parent_of groups.rows g) g (get_or ordered.depths g 0)
        positive (placed_at g below);
  }

  depth_is : (g : ℕ) → g < length groups.rows → get_or ordered.depths g 0 ≡ depth_of groups.rows g
  depth_is = strong
      (λ g. g < length groups.rows → get_or ordered.depths g 0 ≡ depth_of groups.rows g)
      (λ g earlier below.
      by g earlier below (parent_of groups.rows g) refl (placed_at g below))
    where
      by : (g : ℕ) → ((p : ℕ) → p < g → p < length groups.rows
          → get_or ordered.depths p 0 ≡ depth_of groups.rows p)
          → g < length groups.rows → (o : Option ℕ) → parent_of groups.rows g ≡ o
          → IsPlaced groups.rows ordered.depths g o (get_or ordered.depths g 0)
          → get_or ordered.depths g 0 ≡ depth_of groups.rows g
      by g earlier below None up placed = placed.1 ∙ sym (depth_of-top groups.rows tree g up)
      by g earlier below (Some p) up placed =
          placed.2
          ∙ ap (λ (x : ℕ). x + 1) (earlier p placed.0 (omega (arith, placed.0, below)))
          ∙ sym (depth_of-step groups.rows tree g p up)

  idle : (g : ℕ) → g < length groups.rows → is_leaf groups.rows g ≡ false
      → demand_of groups.rows g ≡ 0
  idle g below inner =
      let child = inner_has_child groups.rows g inner in
      let placed : IsPlaced groups.rows ordered.depths child.0 (Some g)
      (get_or ordered.depths child.0 0) =
      subst (λ (o : Option ℕ). IsPlaced groups.rows ordered.depths child.0 o
      (get_or ordered.depths child.0 0)) child.2 (placed_at child.0 child.1) in
      placed.1

  pub ordered-IsInstance : IsInstance groups
  ordered-IsInstance = record {
    host = host;
    tree = tree;
    few = few;
    weights = λ g below. ((ordered.each g below).in_range.0, (ordered.each g below).in_range.1);
    shallow = λ g below.
        let at : get_or ordered.depths g 0 ≤ MAX_DEPTH =
        not_deep groups.rows ordered.depths (parent_of groups.rows g) g
        (get_or ordered.depths g 0) (placed_at g below) in
        let is : get_or ordered.depths g 0 ≡ depth_of groups.rows g = depth_is g below in
        omega (arith, at, is);
    inner_idle = idle;
    demands = λ g below. (ordered.each g below).in_range.2;
    root_unlimited = (ordered.each 0 some).unlimited refl;
  }
