-- The instances of two numbers that an owner may set.
use Rattle.std.proofs.Common.{◌≡◌, ℕ, List, zero, suc, ◌+◌, ◌-◌, ◌^◌, ◌<◌, ◌≤◌, false, length}
use Rattle.std.proofs.Common.{get_or, ◌≢◌, ap, sym, ◌∙◌, arith, inl, inr, Some}
use Rattle.std.proofs.Common.{get_or-set_same, get_or-set_other}
use Rattle.std.specs.Prelude.{min, max, slice_index}
use Rattle.std.proofs.lemmas.Bool.{cases_eq}
use Rattle.std.proofs.lemmas.List.{length-set}
use Rattle.bw_model.specs.declared.row.Row.{Row}
use Rattle.bw_model.specs.Host.{capacity_of}
use Rattle.bw_model.specs.Groups.{Groups, IsInstance, weight_of, demand_of, limit_of}
use Rattle.bw_model.specs.Groups.{is_under, row_of, no_row}
use Rattle.bw_model.specs.OneRow.{with_row}
use Rattle.bw_questions.specs.changes.OneSplit.{LighterHasNoMore}
use Rattle.bw_questions.specs.changes.Tree.{IsSameTree}
use Rattle.bw_model.specs.Plan.{IsPlan}
use Rattle.bw_plan.specs.Laws.{HasOnePlan, ThereIsOnePlan}
use Rattle.bw_questions.specs.Least.{Reaches}
use Rattle.bw_questions.specs.declared.from_root.measure.Measure.TheVariants.{Planned, Guaranteed}
use Rattle.bw_questions.proofs.CallerLemmas.{under_same, busy_groups, busy_valid, busy_tree}
use Rattle.bw_questions.proofs.CallerLemmas.{busy_demands, busy_limits, busy_weights, busy_under}
use Rattle.bw_questions.proofs.CallerLemmas.{busy_long, guaranteed_by_busy}
use Rattle.bw_owned.specs.Laws.{WeightsGrow}
use Rattle.bw_settings.specs.Following.{Follows, AreOnPath, IsNumbered, IsNumberedTo}
use Rattle.bw_settings.specs.Following.{IsWeightBy, number_at}
use Rattle.bw_settings.specs.Settings.{GreaterSettingsGiveNoLess}
use Rattle.bw_settings.proofs.Formulas.{weights_by_grow}
use Rattle.bw_settings.proofs.Loads.{IsReloaded, way_gains}

-- An instance that a number makes has the tree, the demands and the limits as they are.
module _ (groups : Groups) (formulas : List ℕ) (number_of : ℕ → ℕ) (to : ℕ) (others : Groups)
    (is : IsNumberedTo groups formulas number_of to others) where
  pub tree_kept : IsSameTree groups.rows others.rows
  tree_kept = record {
    as_many = is.as_many;
    parents = λ h. ap (λ (r : Row). r.parent) (is.alike h);
  }

  demand_kept : (h : ℕ) → demand_of others.rows h ≡ demand_of groups.rows h
  demand_kept h = ap (λ (r : Row). r.demand) (is.alike h)

  limit_kept : (h : ℕ) → limit_of others h ≡ limit_of groups h
  limit_kept zero = ap (λ shape. Some (capacity_of shape)) is.shape
  limit_kept (suc h) = ap (λ (r : Row). r.limit) (is.alike (suc h))

-- A greater number makes no lesser number of a row.
numbers_rise : (base floor number more greatest : ℕ) → number ≤ more
    → max (min (base + number) greatest) floor ≤ max (min (base + more) greatest) floor
numbers_rise base floor number more greatest le = omega (arith, le)

module _ (lighter : LighterHasNoMore) (grow : WeightsGrow) (groups : Groups) (follows : Follows)
    (group number more : ℕ) (a b : Groups) (valid : IsInstance groups)
    (path : AreOnPath groups.rows follows.formulas group) (le : number ≤ more)
    (one : IsNumbered groups follows.formulas (number_at follows number) a)
    (two : IsNumbered groups follows.formulas (number_at follows more) b) where
  reloaded : IsReloaded a b
  reloaded = record {
    tree = record {
      as_many = two.numbered.as_many ∙ sym one.numbered.as_many;
      parents = λ h.
          (tree_kept groups follows.formulas (number_at follows more) (length groups.rows)
          b two.numbered).parents h
          ∙ sym ((tree_kept groups follows.formulas (number_at follows number) (length groups.rows)
          a one.numbered).parents h);
    };
    demands = λ h.
        demand_kept groups follows.formulas (number_at follows more) (length groups.rows)
        b two.numbered h
        ∙ sym (demand_kept groups follows.formulas (number_at follows number) (length groups.rows) a
        one.numbered h);
    limits = λ h. limit_kept groups follows.formulas (number_at follows more) (length groups.rows) b
        two.numbered h
        ∙ sym (limit_kept groups follows.formulas (number_at follows number) (length groups.rows) a
        one.numbered h);
  }

  under_as : (g h : ℕ) → is_under a.rows g h ≡ is_under groups.rows g h
  under_as = under_same groups.rows a.rows valid.tree one.valid.tree
      (tree_kept groups follows.formulas (number_at follows number) (length groups.rows) a
      one.numbered)

  heavier : (h : ℕ) → h < length a.rows → weight_of a.rows h ≤ weight_of b.rows h
  heavier h h_in = elim (cases_eq h 0) [
    | inl top ↦ rw top (omega (arith, one.numbered.root, two.numbered.root))
    | inr below ↦
        weights_by_grow grow (weight_of groups.rows h) (slice_index follows.formulas h)
        (number_at follows number h) (number_at follows more h) (weight_of a.rows h)
        (weight_of b.rows h)
        (numbers_rise (slice_index follows.bases h) (slice_index follows.floors h) number more
        (2 ^ 64 - 1) le)
        (one.numbered.weights h (omega (arith, below)) (omega (arith, h_in, one.numbered.as_many)))
        (two.numbered.weights h (omega (arith, below)) (omega (arith, h_in, one.numbered.as_many)))
  ]

  stays : (number : ℕ) (others : Groups)
      → IsNumberedTo groups follows.formulas (number_at follows number) (length groups.rows) others
      → (h : ℕ)
      → h < length groups.rows → is_under groups.rows h group ≡ false
      → is_under groups.rows group h ≡ false → weight_of others.rows h ≡ weight_of groups.rows h
  stays number others is h h_in above below = elim (cases_eq h 0) [
    | inl top ↦ rw top is.root
    | inr deeper ↦ elim (is.weights h (omega (arith, deeper)) h_in) [
      | inl by ↦ absurd (path h h_in (h_in, (by.0, by.1), above, below))
      | inr none ↦ none.1
    ]
  ]

  beside : (h : ℕ) → h < length a.rows → is_under a.rows h group ≡ false
      → is_under a.rows group h ≡ false → weight_of b.rows h ≤ weight_of a.rows h
  beside h h_in above below =
      let inside : h < length groups.rows = omega (arith, h_in, one.numbered.as_many) in
      let up = sym (under_as h group) ∙ above in
      let down = sym (under_as group h) ∙ below in
      omega (
        arith,
        stays number a one.numbered h inside up down,
        stays more b two.numbered h inside up down,
      )

  plan_gains : (xs ys : List ℕ) → IsPlan a xs → IsPlan b ys → group < length groups.rows
      → get_or xs group 0 ≤ get_or ys group 0
  plan_gains xs ys is_plan is_other inside =
      way_gains a b one.valid two.valid reloaded xs ys is_plan is_other lighter group
      (omega (arith, inside, one.numbered.as_many)) (λ h h_in above. heavier h h_in) beside

  -- Those in which all that are not under the group ask for the most.
  busy_reloaded : IsReloaded (busy_groups a group) (busy_groups b group)
  busy_reloaded = record {
    tree = busy_tree a b one.valid two.valid group reloaded.tree reloaded.demands;
    demands = busy_demands a b one.valid two.valid group reloaded.tree reloaded.demands;
    limits = λ h. busy_limits b two.valid group h ∙ reloaded.limits h
        ∙ sym (busy_limits a one.valid group h);
  }

  busy_plan_gains : (xs ys : List ℕ) → IsPlan (busy_groups a group) xs
      → IsPlan (busy_groups b group) ys → group < length groups.rows
      → get_or xs group 0 ≤ get_or ys group 0
  busy_plan_gains xs ys is_plan is_other inside =
      way_gains (busy_groups a group) (busy_groups b group) (busy_valid a one.valid group)
      (busy_valid b two.valid group) busy_reloaded xs ys is_plan is_other lighter group
      (omega (arith, inside, one.numbered.as_many, busy_long a one.valid group))
      (λ h h_in above.
      omega (
        arith,
        heavier h (omega (arith, h_in, busy_long a one.valid group)),
        busy_weights a one.valid group h,
        busy_weights b two.valid group h,
      ))
      (λ h h_in above below.
      omega (
        arith,
        beside h (omega (arith, h_in, busy_long a one.valid group))
            (sym (busy_under a one.valid group h group) ∙ above)
            (sym (busy_under a one.valid group group h) ∙ below),
        busy_weights a one.valid group h,
        busy_weights b two.valid group h,
      ))

pub settings_rise : ThereIsOnePlan → LighterHasNoMore → WeightsGrow → GreaterSettingsGiveNoLess
settings_rise only lighter grow Planned groups follows group number more amount a b valid each path
    inside le one two reached =
    let here : HasOnePlan b = only b two.valid in
    record {
      amounts = here.amounts;
      plan = here.plan;
      enough =
          omega (
            arith,
            reached.enough,
            plan_gains lighter grow groups follows group number more a b valid path le one two
                reached.amounts here.amounts reached.plan here.plan inside,
          );
    }
settings_rise only lighter grow Guaranteed groups follows group number more amount a b valid each
    path inside le one two kept =
    let was : Reaches (busy_groups a group) group amount =
    (guaranteed_by_busy only a one.valid group amount
    (omega (arith, inside, one.numbered.as_many))).1 kept in
    let here : HasOnePlan (busy_groups b group) =
    only (busy_groups b group) (busy_valid b two.valid group) in
    (guaranteed_by_busy only b two.valid group amount
    (omega (arith, inside, two.numbered.as_many))).0 (record {
      amounts = here.amounts;
      plan = here.plan;
      enough =
          omega (
            arith,
            was.enough,
            busy_plan_gains lighter grow groups follows group number more a b valid path le one two
                was.amounts here.amounts was.plan here.plan inside,
          );
    })

-- One more row follows.
module _ (groups : Groups) (formulas : List ℕ) (number_of : ℕ → ℕ) (h weight : ℕ)
    (others : Groups) (is : IsNumberedTo groups formulas number_of h others) (below_root : 0 < h)
    (inside : h < length groups.rows) where
  here : row_of (with_row others h weight (row_of others.rows h).limit).rows h
      ≡ record (row_of others.rows h) { weight = weight; limit = (row_of others.rows h).limit }
  here = get_or-set_same others.rows h
      (record (row_of others.rows h) { weight = weight; limit = (row_of others.rows h).limit })
      no_row (omega (arith, inside, is.as_many))

  elsewhere : (k : ℕ) → k ≢ h
      → row_of (with_row others h weight (row_of others.rows h).limit).rows k
      ≡ row_of others.rows k
  elsewhere k other = get_or-set_other others.rows h k
      (record (row_of others.rows h) { weight = weight; limit = (row_of others.rows h).limit })
      no_row other

  weight_here : weight_of (with_row others h weight (row_of others.rows h).limit).rows h ≡ weight
  weight_here = ap (λ (r : Row). r.weight) here

  weight_elsewhere : (k : ℕ) → k ≢ h
      → weight_of (with_row others h weight (row_of others.rows h).limit).rows k
      ≡ weight_of others.rows k
  weight_elsewhere k other = ap (λ (r : Row). r.weight) (elsewhere k other)

  alike_then : (k : ℕ)
      → row_of (with_row others h weight (row_of others.rows h).limit).rows k
      ≡ record (row_of groups.rows k) {
        weight = weight_of (with_row others h weight (row_of others.rows h).limit).rows k;
      }
  alike_then k = elim (cases_eq k h) [
    | inl same ↦ rw same (
        here
        ∙ ap (λ (r : Row). record r { weight = weight; limit = r.limit }) (is.alike h)
        ∙ ap (λ (w : ℕ). record (row_of groups.rows h) { weight = w }) (sym weight_here))
    | inr other ↦
        elsewhere k other ∙ is.alike k
        ∙ ap (λ (w : ℕ). record (row_of groups.rows k) { weight = w })
        (sym (weight_elsewhere k other))
  ]

  pub one_more_follows : IsWeightBy (weight_of groups.rows h) (slice_index formulas h)
      (number_of h) weight
      → IsNumberedTo groups formulas number_of (h + 1)
      (with_row others h weight (row_of others.rows h).limit)
  one_more_follows by = record {
    shape = is.shape;
    as_many = length-set others.rows h
        (record (row_of others.rows h) { weight = weight; limit = (row_of others.rows h).limit })
        ∙ is.as_many;
    alike = alike_then;
    root = weight_elsewhere 0 (λ top. let clash : ⊥ = omega (arith, top, below_root) in clash)
        ∙ is.root;
    weights = λ k above below. elim (cases_eq k h) [
      | inl same ↦ rw (same, weight_here) by
      | inr other ↦ rw (weight_elsewhere k other)
          (is.weights k above (omega (arith, below, other)))
    ];
    later = λ k past.
        weight_elsewhere k (λ same. let clash : ⊥ = omega (arith, same, past) in clash)
        ∙ is.later k (omega (arith, past));
  }
