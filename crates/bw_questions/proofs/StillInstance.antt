-- An instance with one setting changed is an instance.
use Rattle.std.proofs.Common.{◌≡◌, ◌≢◌, ℕ, zero, suc, ◌<◌, ◌≤◌, List, [], ◌∷◌, false, Option, None}
use Rattle.std.proofs.Common.{Some, length, refl, ap, sym, ◌∙◌, arith, inl, inr}
use Rattle.std.proofs.Common.{get_or-set_same, get_or-set_other}
use Rattle.std.specs.Option.{option_map_or}
use Rattle.std.proofs.lemmas.Bool.{cases_eq}
use Rattle.std.proofs.lemmas.List.{length-set}
use Rattle.bw_model.specs.declared.row.Row.{Row}
use Rattle.bw_model.specs.declared.limits.TheConstants.{MIN_WEIGHT, MAX_WEIGHT, MAX_PROCESSORS}
use Rattle.bw_model.specs.Groups.{Groups, IsInstance, no_row, row_of, parent_of}
use Rattle.bw_model.specs.Groups.{weight_of, demand_of, path_up_within, path_up, depth_of, is_leaf}
use Rattle.bw_model.proofs.CallerLemmas.{inner_has_child, parent_not_leaf}
use Rattle.bw_questions.specs.Change.{with_row, with_processors}

-- rows of the same parents
module _ (rows others : List Row) (same : (h : ℕ) → parent_of others h ≡ parent_of rows h) where
  path_within_same : (steps g : ℕ) → path_up_within steps others g ≡ path_up_within steps rows g
  unfolding path_up_within
  path_within_same zero g = refl
  path_within_same (suc steps) g =
      ap (λ (path : List ℕ). g ∷ path)
      (ap (λ o. option_map_or (path_up_within steps others) o []) (same g)
      ∙ onward (parent_of rows g) (path_within_same steps))
    where
      onward : (o : Option ℕ)
          → ((h : ℕ) → path_up_within steps others h ≡ path_up_within steps rows h)
          → option_map_or (path_up_within steps others) o []
          ≡ option_map_or (path_up_within steps rows) o []
      onward None e = refl
      onward (Some p) e = e p

  depth_same : (g : ℕ) → depth_of others g ≡ depth_of rows g
  unfolding depth_of path_up
  depth_same g = rw (path_within_same g g) refl

  inner_same : length others ≡ length rows → (g : ℕ) → is_leaf others g ≡ false
      → is_leaf rows g ≡ false
  inner_same as_many g inner =
      let child : (c : ℕ) × (c < length others) × (parent_of others c ≡ Some g) =
      inner_has_child others g inner in
      parent_not_leaf rows g child.0 (omega (arith, child.1, as_many))
      (sym (same child.0) ∙ child.2)

-- another row of one group
module _ (groups : Groups) (group : ℕ) (row : Row) (inside : group < length groups.rows) where
  -- A field in which the new row is as the old one.
  pub field_same : {A : Type 0} (f : Row → A) → f row ≡ f (row_of groups.rows group) → (h : ℕ)
      → f (row_of (with_row groups group row).rows h) ≡ f (row_of groups.rows h)
  field_same f e h = elim (cases_eq h group) [
    | inl here ↦ rw here (ap f (get_or-set_same groups.rows group row no_row inside) ∙ e)
    | inr other ↦ ap f (get_or-set_other groups.rows group h row no_row other)
  ]

  pub row_here : row_of (with_row groups group row).rows group ≡ row
  row_here = get_or-set_same groups.rows group row no_row inside

  pub row_other : (h : ℕ) → h ≢ group
      → row_of (with_row groups group row).rows h ≡ row_of groups.rows h
  row_other h other = get_or-set_other groups.rows group h row no_row other

  pub weight_here : weight_of (with_row groups group row).rows group ≡ row.weight
  weight_here = ap (λ (r : Row). r.weight) row_here

  pub weight_other : (h : ℕ) → h ≢ group
      → weight_of (with_row groups group row).rows h ≡ weight_of groups.rows h
  weight_other h other = ap (λ (r : Row). r.weight) (row_other h other)

  pub as_many : length (with_row groups group row).rows ≡ length groups.rows
  as_many = length-set groups.rows group row

  module _ (valid : IsInstance groups) (parent : row.parent ≡ parent_of groups.rows group)
      (demand : row.demand ≡ demand_of groups.rows group) where
    parents_kept : (h : ℕ)
        → parent_of (with_row groups group row).rows h ≡ parent_of groups.rows h
    parents_kept = field_same (λ r. r.parent) parent

    demands_kept : (h : ℕ)
        → demand_of (with_row groups group row).rows h ≡ demand_of groups.rows h
    demands_kept = field_same (λ r. r.demand) demand

    pub row-IsInstance : MIN_WEIGHT ≤ row.weight → row.weight ≤ MAX_WEIGHT
        → (group ≡ 0 → row.limit ≡ None) → IsInstance (with_row groups group row)
    row-IsInstance least greatest unlimited = record {
      host = valid.host;
      tree = record {
        has_root = omega (arith, as_many, valid.tree.has_root);
        root_on_top = parents_kept 0 ∙ valid.tree.root_on_top;
        parent_before = λ g inner below.
            let known = valid.tree.parent_before g inner (omega (arith, below, as_many)) in
            (known.0, parents_kept g ∙ known.1, known.2);
      };
      few = omega (arith, as_many, valid.few);
      weights = λ g below. elim (cases_eq g group) [
        | inl here ↦ rw (here, weight_here) (least, greatest)
        | inr other ↦ rw (weight_other g other) (valid.weights g (omega (arith, below, as_many)))
      ];
      shallow = λ g below.
          rw (depth_same groups.rows (with_row groups group row).rows parents_kept g)
          (valid.shallow g (omega (arith, below, as_many)));
      inner_idle = λ g below inner. demands_kept g
          ∙ valid.inner_idle g (omega (arith, below, as_many))
          (inner_same groups.rows (with_row groups group row).rows parents_kept as_many g inner);
      demands = λ g below. rw (demands_kept g) (valid.demands g (omega (arith, below, as_many)));
      root_unlimited = elim (cases_eq 0 group) [
        | inl here ↦ ap (λ g. (row_of (with_row groups group row).rows g).limit) here
            ∙ ap (λ (r : Row). r.limit) row_here ∙ unlimited (sym here)
        | inr other ↦ ap (λ (r : Row). r.limit) (row_other 0 other) ∙ valid.root_unlimited
      ];
    }

pub processors-IsInstance : (groups : Groups) → IsInstance groups → (processors : ℕ)
    → 1 ≤ processors → processors ≤ MAX_PROCESSORS → IsInstance (with_processors groups processors)
processors-IsInstance groups valid processors some few_enough = record {
  host = record {
    some_processor = some;
    few_processors = few_enough;
    long_period = valid.host.long_period;
    short_period = valid.host.short_period;
    long_slice = valid.host.long_slice;
    short_slice = valid.host.short_slice;
    whole = valid.host.whole;
  };
  tree = valid.tree;
  few = valid.few;
  weights = valid.weights;
  shallow = valid.shallow;
  inner_idle = valid.inner_idle;
  demands = valid.demands;
  root_unlimited = valid.root_unlimited;
}
