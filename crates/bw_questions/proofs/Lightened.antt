-- Least weights of rows that may change, and what the least from the root down beside them are.
use Rattle.std.proofs.Common.{◌≡◌, ℕ, List, Bool, length, false, get_or, refl, ap}
use Rattle.std.proofs.Common.{sym, ◌∙◌, arith, inl, inr}
use Rattle.std.specs.Prelude.{slice_index_or}
use Rattle.std.proofs.lemmas.Bool.{cases_lt, cases_Bool}
use Rattle.std.proofs.lemmas.List.{get_or_past}
use Rattle.bw_model.specs.declared.row.Row.{Row}
use Rattle.bw_model.specs.declared.limits.TheConstants.{MIN_WEIGHT}
use Rattle.bw_model.specs.Groups.{Groups, IsInstance, no_row, weight_of}
use Rattle.bw_questions.proofs.changes.Trees.{leaf_same, under_same}
use Rattle.bw_questions.specs.declared.from_root.measure.Measure.TheVariants.{Planned}
use Rattle.bw_questions.specs.FromRoot.{AreFloors}
use Rattle.bw_questions.specs.FromRoot.{AreRowWeights, IsFromRoot}
use Rattle.bw_questions.specs.FromRoot.{IsLightened, IsNeverReached, IsNoLighter, IsReweightedAt}
use Rattle.bw_questions.specs.FromRoot.{IsTunedFromRoot, weighed}
use Rattle.bw_questions.specs.declared.from_root.least.Tuned.{Tuned}
use Rattle.bw_questions.specs.declared.from_root.least.Tuned.TheVariants.{Met, Unmet}
use Rattle.bw_questions.proofs.Weighed.{demands_kept, limits_kept, tree_kept, weight_at}
use Rattle.bw_questions.proofs.Weighed.{weight_past}
use Rattle.bw_questions.proofs.Weighed.{weighed-IsInstance}

module _ (groups : Groups) (valid : IsInstance groups) (may : List Bool) (floors : List ℕ)
    (are : AreFloors groups.rows may floors) where
  pub floors_in_range : AreRowWeights groups.rows floors
  floors_in_range = record {
    one_each = are.one_each;
    in_range = λ g below. elim (cases_Bool (slice_index_or may g false)) [
      | inl free ↦
          let floor : get_or floors g 0 ≡ MIN_WEIGHT = are.each g below ∙ rw free refl in
          (omega (arith, floor), omega (arith, floor))
      | inr stays ↦
          let floor : get_or floors g 0 ≡ weight_of groups.rows g =
          are.each g below ∙ rw stays refl in
          let known = valid.weights g below in
          (omega (arith, floor, known.0), omega (arith, floor, known.1))
    ];
  }

  pub are_light : IsLightened groups may (weighed groups floors)
  are_light = record {
    reweighted = record {
      valid = weighed-IsInstance groups floors valid floors_in_range;
      shape = refl;
      tree = tree_kept groups floors;
      demands = demands_kept groups floors;
      limits = limits_kept groups floors;
      weights = λ h stays. elim (cases_lt h (length groups.rows)) [
        | inl below ↦ weight_at groups floors h below ∙ are.each h below ∙ rw stays refl
        | inr past ↦ weight_past groups floors h past
      ];
    };
    least = λ g below free. weight_at groups floors g below ∙ are.each g below ∙ rw free refl;
  }

module _ (groups : Groups) (valid : IsInstance groups) (may : List Bool) (light : Groups)
    (is : IsLightened groups may light) where
  -- Other weights of the groups are other weights of the light ones, and none is less.
  pub beside_light : (others : Groups) → IsReweightedAt groups others may
      → IsReweightedAt light others may
  beside_light others other = record {
    valid = other.valid;
    shape = other.shape ∙ sym is.reweighted.shape;
    tree = record {
      as_many = other.tree.as_many ∙ sym is.reweighted.tree.as_many;
      parents = λ g. other.tree.parents g ∙ sym (is.reweighted.tree.parents g);
    };
    demands = λ h. other.demands h ∙ sym (is.reweighted.demands h);
    limits = λ h. other.limits h ∙ sym (is.reweighted.limits h);
    weights = λ h stays. other.weights h stays ∙ sym (is.reweighted.weights h stays);
  }

  pub from_light : (others : Groups) → IsReweightedAt light others may
      → IsReweightedAt groups others may
  from_light others other = record {
    valid = other.valid;
    shape = other.shape ∙ is.reweighted.shape;
    tree = record {
      as_many = other.tree.as_many ∙ is.reweighted.tree.as_many;
      parents = λ g. other.tree.parents g ∙ is.reweighted.tree.parents g;
    };
    demands = λ h. other.demands h ∙ is.reweighted.demands h;
    limits = λ h. other.limits h ∙ is.reweighted.limits h;
    weights = λ h stays. other.weights h stays ∙ is.reweighted.weights h stays;
  }

  above_light : (others : Groups) → IsReweightedAt groups others may → IsNoLighter light others
  above_light others other h = elim (cases_Bool (slice_index_or may h false)) [
    | inr stays ↦ omega (arith, other.weights h stays, is.reweighted.weights h stays)
    | inl free ↦ elim (cases_lt h (length groups.rows)) [
      | inl below ↦
          omega (
            arith,
            is.least h below free,
            (other.valid.weights h (omega (arith, below, other.tree.as_many))).0,
          )
      | inr past ↦
          let nothing : weight_of light.rows h ≡ 0 =
          ap (λ (r : Row). r.weight)
          (get_or_past light.rows h no_row (omega (arith, past, is.reweighted.tree.as_many))) in
          omega (arith, nothing)
    ]
  ]

  -- Where no weights from those that stand on meet the goals, the least from the lightest on are
  -- the least of all.
  pub tuned_light : (goals : List ℕ) (top : ℕ) → IsNeverReached groups goals may top
      → (tuned : Tuned) → IsFromRoot light goals may tuned
      → IsTunedFromRoot Planned groups goals may tuned
  tuned_light goals top never (Met tuned) found = inr (record {
    reweighted = from_light tuned found.reweighted;
    met = found.met;
    none_heavier = λ others other reached heavier.
        never.never others other heavier (record {
          amounts = reached.amounts;
          plan = reached.plan;
          met = λ h below under. reached.met h below;
        });
    least = λ others other reached h agrees.
        found.least others (beside_light others other) (above_light others other) reached h agrees;
  })
  tuned_light goals top never (Unmet group) found = record {
    within = omega (arith, found.within, is.reweighted.tree.as_many);
    lowest = λ h below under apart.
        let tree = is.reweighted.tree in
        let fits = found.lowest h (omega (arith, below, tree.as_many))
        (under_same groups.rows light.rows valid.tree is.reweighted.valid.tree tree group h ∙ under)
        apart in
        record {
          limit = λ limit here. fits.limit limit (is.reweighted.limits h ∙ here);
          demand = λ leaf.
              omega (
                arith,
                fits.demand (leaf_same groups.rows light.rows tree h ∙ leaf),
                is.reweighted.demands h,
              );
        };
    never = λ others other reached.
        found.never others (beside_light others other) (above_light others other) reached;
  }
