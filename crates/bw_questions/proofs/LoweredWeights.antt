-- Weights that meet all goals still do so where weights of rows away from the goals are lower.
use Rattle.std.proofs.Common.{◌≡◌, ℕ, ◌<◌, ◌≤◌, List, Bool, true, false, length, get_or, refl}
use Rattle.std.proofs.Common.{ap, sym, ◌∙◌, arith, inl, inr, true≢false}
use Rattle.std.specs.Prelude.{◌&&◌, min, not, slice_index_or, if◌then◌else◌}
use Rattle.std.proofs.lemmas.Bool.{cases_Bool, cases_lt}
use Rattle.std.proofs.lemmas.List.{get_or_past}
use Rattle.std.proofs.lemmas.List.FromFn.{get_or-map-range_with_len, length-map-range_with_len}
use Rattle.bw_model.specs.declared.limits.TheConstants.{MIN_WEIGHT, MAX_WEIGHT}
use Rattle.bw_model.specs.declared.row.Row.{Row}
use Rattle.bw_model.specs.Groups.{Groups, IsInstance, demand_of, limit_of, no_row}
use Rattle.bw_model.specs.Groups.{weight_of}
use Rattle.bw_plan.specs.Laws.{HasOnePlan, ThereIsOnePlan}
use Rattle.bw_questions.specs.changes.Tree.{IsSameTree}
use Rattle.bw_questions.specs.changes.Weight.{IsHeavierAround, OthersWeightsGiveNothing}
use Rattle.bw_questions.proofs.changes.Trees.{under_same}
use Rattle.bw_questions.specs.FromRoot.{AreMet, AreRowWeights, IsKept, IsReweightedAt}
use Rattle.bw_questions.specs.Lowered.{CanBeMetAt, has_goal, is_own, level_weight, level_weights}
use Rattle.bw_questions.specs.Lowered.{lowered, own_rows}
use Rattle.bw_questions.specs.declared.from_root.measure.Measure.{Measure}
use Rattle.bw_questions.specs.declared.from_root.measure.Measure.TheVariants.{Planned, Guaranteed}
use Rattle.bw_questions.proofs.BusyPair.{busy_demands, busy_groups, busy_limits, busy_long}
use Rattle.bw_questions.proofs.BusyPair.{busy_tree, busy_under, busy_valid, busy_weights}
use Rattle.bw_questions.proofs.BusyPair.{kept_beside, no_goal}
use Rattle.bw_questions.proofs.GoalRows.{goal_bound, goals_same}
use Rattle.bw_questions.proofs.Weighed.{as_many, demands_kept, limits_kept, tree_kept}
use Rattle.bw_questions.proofs.Weighed.{weight_at, weight_past, weighed-IsInstance}

-- Two instances of which one is heavier around a group: a goal that is kept in it is kept.
kept_low : (low high : Groups) (valid_low : IsInstance low) (valid_high : IsInstance high) (q : ℕ)
    → IsHeavierAround low high q → ThereIsOnePlan → OthersWeightsGiveNothing
    → q < length low.rows → (goals : List ℕ) → IsKept high goals q → IsKept low goals q
kept_low low high valid_low valid_high q around one law below goals =
    kept_beside low high valid_low valid_high q around.tree around.demands one below goals
    (λ xs ys low_plan high_plan.
    law (busy_groups low q) (busy_groups high q) q xs ys (busy_valid low valid_low q)
    (busy_valid high valid_high q)
    (record {
      tree = busy_tree low high valid_low valid_high q around.tree around.demands;
      demands = busy_demands low high valid_low valid_high q around.tree around.demands;
      limits = λ h.
          busy_limits high valid_high q h ∙ around.limits h ∙ sym (busy_limits low valid_low q h);
      weights = λ h.
          omega (
            arith,
            busy_weights high valid_high q h,
            busy_weights low valid_low q h,
            around.weights h,
          );
      above = λ h under.
          busy_weights high valid_high q h
          ∙ around.above h (sym (busy_under low valid_low q h q) ∙ under)
          ∙ sym (busy_weights low valid_low q h);
    })
    (omega (arith, below, busy_long low valid_low q)) low_plan high_plan)

module _ (groups : Groups) (goals : List ℕ) (may : List Bool) where
  -- the weight of a row that stays at a level
  pub stays_own : (level h : ℕ) → has_goal groups.rows goals h ≡ true
      → level_weight groups.rows goals may level h ≡ weight_of groups.rows h
  stays_own level h own = elim (cases_Bool (slice_index_or may h false)) [
    | inl free ↦ rw (free, own) refl
    | inr kept ↦ rw kept refl
  ]

  no_heavier : (level h : ℕ)
      → level_weight groups.rows goals may level h ≤ weight_of groups.rows h
  no_heavier level h = elim (cases_Bool (slice_index_or may h false)) [
    | inr kept ↦ rw kept (omega arith)
    | inl free ↦ elim (cases_Bool (has_goal groups.rows goals h)) [
      | inl own ↦ rw (free, own) (omega arith)
      | inr away ↦ rw (free, away) (omega arith)
    ]
  ]

  past_none : (h : ℕ) → length groups.rows ≤ h → weight_of groups.rows h ≡ 0
  past_none h past = ap (λ (r : Row). r.weight) (get_or_past groups.rows h no_row past)

  pub level_long : (level : ℕ)
      → length (lowered groups goals may level).rows ≡ length groups.rows
  level_long level = as_many groups (level_weights groups.rows goals may level)

  -- the weight of each row at a level
  pub lowered_at : (level h : ℕ) → weight_of (lowered groups goals may level).rows h
      ≡ level_weight groups.rows goals may level h
  lowered_at level h = elim (cases_lt h (length groups.rows)) [
    | inl below ↦
        weight_at groups (level_weights groups.rows goals may level) h below
        ∙ get_or-map-range_with_len (level_weight groups.rows goals may level) 0
        (length groups.rows) h h 0 below (omega arith)
    | inr past ↦
        omega (
          arith,
          weight_past groups (level_weights groups.rows goals may level) h past,
          past_none h past,
          no_heavier level h,
        )
  ]

  module _ (valid : IsInstance groups) (level : ℕ) (some : MIN_WEIGHT ≤ level) where
    in_range : (h : ℕ) → h < length groups.rows
        → (MIN_WEIGHT ≤ level_weight groups.rows goals may level h)
        × (level_weight groups.rows goals may level h ≤ MAX_WEIGHT)
    in_range h below =
        let known = valid.weights h below in
        elim (cases_Bool (slice_index_or may h false)) [
          | inr kept ↦ rw kept known
          | inl free ↦ elim (cases_Bool (has_goal groups.rows goals h)) [
            | inl own ↦ rw (free, own) known
            | inr away ↦
                rw (free, away) (omega (arith, some, known.0), omega (arith, known.1))
          ]
        ]

    pub are_level_weights : AreRowWeights groups.rows
        (level_weights groups.rows goals may level)
    are_level_weights = record {
      one_each =
          length-map-range_with_len (level_weight groups.rows goals may level) 0
          (length groups.rows);
      in_range = λ h below.
          rw (get_or-map-range_with_len (level_weight groups.rows goals may level) 0
          (length groups.rows) h h 0 below (omega arith))
          (in_range h below);
    }

    pub lowered-IsInstance : IsInstance (lowered groups goals may level)
    lowered-IsInstance =
        weighed-IsInstance groups (level_weights groups.rows goals may level) valid
        are_level_weights

    -- Rows away from the goals are no heavier, and no other weight is changed.
    around : (q : ℕ) → q < length groups.rows → 0 < get_or goals q 0
        → IsHeavierAround (lowered groups goals may level) groups q
    around q below much =
        let weights = level_weights groups.rows goals may level in
        let kept = tree_kept groups weights in
        record {
          tree = record { as_many = sym kept.as_many; parents = λ g. sym (kept.parents g) };
          demands = λ h. sym (demands_kept groups weights h);
          limits = λ h. sym (limits_kept groups weights h);
          weights = λ h. omega (arith, lowered_at level h, no_heavier level h);
          above = λ h under.
              sym (lowered_at level h
              ∙ stays_own level h
              (goal_bound groups.rows goals h q below much
              (sym (under_same groups.rows (lowered groups goals may level).rows valid.tree
              lowered-IsInstance.tree kept h q) ∙ under)));
        }

    module _ (one : ThereIsOnePlan) (law : OthersWeightsGiveNothing) where
      -- Goals that are met are met at a level.
      pub met_lower : (measure : Measure) → AreMet measure groups goals
          → AreMet measure (lowered groups goals may level) goals
      met_lower Planned reached =
          let next : HasOnePlan (lowered groups goals may level) =
          one (lowered groups goals may level) lowered-IsInstance in
          record {
            amounts = next.amounts;
            plan = next.plan;
            met = λ h below.
                let within : h < length groups.rows = omega (arith, below, level_long level) in
                elim (cases_lt 0 (get_or goals h 0)) [
                  | inr none ↦ omega (arith, none)
                  | inl much ↦
                      omega (
                        arith,
                        reached.met h within,
                        law (lowered groups goals may level) groups h next.amounts
                            reached.amounts lowered-IsInstance valid (around h within much) below
                            next.plan reached.plan,
                      )
                ];
          }
      met_lower Guaranteed kept = λ h below.
          let within : h < length groups.rows = omega (arith, below, level_long level) in
          elim (cases_lt 0 (get_or goals h 0)) [
            | inl much ↦
                kept_low (lowered groups goals may level) groups lowered-IsInstance valid h
                (around h within much) one law below goals (kept h within)
            | inr none ↦
                no_goal (lowered groups goals may level) lowered-IsInstance h one below goals
                (omega (arith, none))
          ]

-- the weight of a row at a level, by a flag that tells whether the row has a goal
pub weight_by_flag : (rows : List Row) (goals : List ℕ) (may : List Bool) (level h : ℕ)
    (flag : Bool) → flag ≡ has_goal rows goals h
    → (if slice_index_or may h false && not flag then min (weight_of rows h) level
    else weight_of rows h) ≡ level_weight rows goals may level h
weight_by_flag rows goals may level h flag e = rw e refl

-- Another instance, with other weights alone, at a level.
module _ (groups : Groups) (valid : IsInstance groups) (goals : List ℕ) (may : List Bool)
    (others : Groups) (other_valid : IsInstance others) (shape : others.shape ≡ groups.shape)
    (tree : IsSameTree groups.rows others.rows)
    (demands : (h : ℕ) → demand_of others.rows h ≡ demand_of groups.rows h)
    (limits : (h : ℕ) → limit_of others h ≡ limit_of groups h) (level : ℕ)
    (some : MIN_WEIGHT ≤ level) where
  -- Where rows whose weights are not the goals' own have the same weight, it is one of the level.
  pub beside_level : ((h : ℕ) → h < length groups.rows → is_own groups.rows goals may h ≡ false
      → level_weight others.rows goals may level h ≡ level_weight groups.rows goals may level h)
      → IsReweightedAt (lowered groups goals may level) (lowered others goals may level)
      (own_rows groups.rows goals may)
  beside_level same =
      let here = level_weights groups.rows goals may level in
      let there = level_weights others.rows goals may level in
      let kept = tree_kept groups here in
      let moved = tree_kept others there in
      record {
        valid = lowered-IsInstance others goals may other_valid level some;
        shape = shape;
        tree = record {
          as_many = moved.as_many ∙ tree.as_many ∙ sym kept.as_many;
          parents = λ g. moved.parents g ∙ tree.parents g ∙ sym (kept.parents g);
        };
        demands = λ h.
            demands_kept others there h ∙ demands h ∙ sym (demands_kept groups here h);
        limits = λ h. limits_kept others there h ∙ limits h ∙ sym (limits_kept groups here h);
        weights = λ h stays. elim (cases_lt h (length groups.rows)) [
          | inl below ↦
              let own : is_own groups.rows goals may h ≡ false =
              sym (get_or-map-range_with_len (is_own groups.rows goals may) 0
              (length groups.rows) h h false below (omega arith)) ∙ stays in
              lowered_at others goals may level h ∙ same h below own
              ∙ sym (lowered_at groups goals may level h)
          | inr past ↦
              weight_past others there h (omega (arith, past, tree.as_many))
              ∙ past_none others goals may h (omega (arith, past, tree.as_many))
              ∙ sym (past_none groups goals may h past)
              ∙ sym (weight_past groups here h past)
        ];
      }

  -- Equal weights of a row, or weights that the level or a higher one cuts, are cut to the same.
  pub same_at : (h : ℕ) → is_own groups.rows goals may h ≡ false
      → (slice_index_or may h false ≡ false → weight_of others.rows h ≡ weight_of groups.rows h)
      → (slice_index_or may h false ≡ true → has_goal groups.rows goals h ≡ false
      → min (weight_of others.rows h) level ≡ min (weight_of groups.rows h) level)
      → level_weight others.rows goals may level h ≡ level_weight groups.rows goals may level h
  same_at h own kept cut =
      let goal : has_goal others.rows goals h ≡ has_goal groups.rows goals h =
      goals_same groups.rows others.rows valid.tree other_valid.tree tree goals h in
      elim (cases_Bool (slice_index_or may h false)) [
        | inr stays ↦ rw stays (kept stays)
        | inl free ↦ elim (cases_Bool (has_goal groups.rows goals h)) [
          | inr away ↦ rw (goal, free, away) (cut free away)
          | inl goes ↦
              let both : is_own groups.rows goals may h ≡ true = rw (free, goes) refl in
              absurd (true≢false (sym both ∙ own))
        ]
      ]

module _ (measure : Measure) (groups : Groups) (valid : IsInstance groups) (goals : List ℕ)
    (may : List Bool) (one : ThereIsOnePlan) (law : OthersWeightsGiveNothing) where
  -- What some weights of rows that may change meet, some meet at each level.
  pub met_at : (others : Groups) → IsReweightedAt groups others may → AreMet measure others goals
      → CanBeMetAt measure groups goals may MIN_WEIGHT
  met_at others other met = record {
    others = lowered others goals may MIN_WEIGHT;
    reweighted =
        beside_level groups valid goals may others other.valid other.shape other.tree
        other.demands other.limits MIN_WEIGHT (omega arith)
        (λ h below own.
        same_at groups valid goals may others other.valid other.shape other.tree other.demands
        other.limits MIN_WEIGHT (omega arith) h own (other.weights h)
        (λ free away.
        omega (
          arith,
          (other.valid.weights h (omega (arith, below, other.tree.as_many))).0,
          (valid.weights h below).0,
        )));
    met = met_lower others goals may other.valid MIN_WEIGHT (omega arith) one law measure met;
  }

  -- What can be met at a level can be met at a lower one.
  pub met_below : (level higher : ℕ) → MIN_WEIGHT ≤ level → level ≤ higher
      → CanBeMetAt measure groups goals may higher → CanBeMetAt measure groups goals may level
  met_below level higher some less can =
      let high = level_weights groups.rows goals may higher in
      let other = can.reweighted in
      let kept = tree_kept groups high in
      let tree : IsSameTree groups.rows can.others.rows =
      record {
        as_many = other.tree.as_many ∙ kept.as_many;
        parents = λ g. other.tree.parents g ∙ kept.parents g;
      } in
      let demands : (h : ℕ) → demand_of can.others.rows h ≡ demand_of groups.rows h =
      λ h. other.demands h ∙ demands_kept groups high h in
      let limits : (h : ℕ) → limit_of can.others h ≡ limit_of groups h =
      λ h. other.limits h ∙ limits_kept groups high h in
      record {
        others = lowered can.others goals may level;
        reweighted =
            beside_level groups valid goals may can.others other.valid other.shape tree demands
            limits level some
            (λ h below own.
            let here : weight_of can.others.rows h
            ≡ level_weight groups.rows goals may higher h =
            other.weights h
            (get_or-map-range_with_len (is_own groups.rows goals may) 0 (length groups.rows) h h
            false below (omega arith) ∙ own)
            ∙ lowered_at groups goals may higher h in
            same_at groups valid goals may can.others other.valid other.shape tree demands limits
            level some h own
            (λ stays. here ∙ rw stays refl)
            (λ free away.
            let cut : weight_of can.others.rows h ≡ min (weight_of groups.rows h) higher =
            here ∙ rw (free, away) refl in
            omega (arith, cut, less)));
        met = met_lower can.others goals may other.valid level some one law measure can.met;
      }
