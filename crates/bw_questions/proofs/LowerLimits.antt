-- Weights that meet goals still do so where limits of free rows are lower.
use Rattle.std.proofs.Common.{◌≡◌, ℕ, zero, suc, ◌<◌, ◌≤◌, List, Bool, true, false, Some, length}
use Rattle.std.proofs.Common.{get_or, refl, ap, sym, ◌∙◌, arith, inl, inr, ◌||◌}
use Rattle.std.proofs.Math.Bool.{or-true}
use Rattle.std.proofs.lemmas.Bool.{cases_lt, lt-ltb}
use Rattle.bw_model.specs.Groups.{Groups, IsInstance, demand_of, limit_of, is_under}
use Rattle.bw_model.specs.Host.{Shape, capacity_of}
use Rattle.bw_plan.specs.Laws.{HasOnePlan, ThereIsOnePlan}
use Rattle.bw_questions.specs.changes.Room.{IsRoomierAround, OthersRoomGivesNothing}
use Rattle.bw_questions.specs.changes.Tree.{IsSameTree}
use Rattle.bw_questions.proofs.changes.Trees.{under_same}
use Rattle.bw_questions.specs.Busy.{busy_rows}
use Rattle.bw_questions.specs.FromRoot.{AreMet, IsKept, IsReweightedAt}
use Rattle.bw_questions.specs.HeldRule.{own_limit}
use Rattle.bw_questions.specs.OtherLimits.{AreCuts, CanBeMet, cut_to}
use Rattle.bw_questions.specs.OtherLimits.{is_free}
use Rattle.bw_questions.specs.declared.from_root.measure.Measure.{Measure}
use Rattle.bw_questions.specs.declared.from_root.measure.Measure.TheVariants.{Planned, Guaranteed}
use Rattle.bw_questions.proofs.BusyPair.{busy_demands, busy_groups, busy_limits, busy_long}
use Rattle.bw_questions.proofs.BusyPair.{busy_tree, busy_under, busy_valid, busy_weights}
use Rattle.bw_questions.proofs.BusyPair.{kept_beside, no_goal}
use Rattle.bw_questions.proofs.CutRows.{as_many, cut_limit, cut_twice, cut-IsInstance, demands_kept}
use Rattle.bw_questions.proofs.CutRows.{limit_here, limit_kept, limit_past, roomier, root_full}
use Rattle.bw_questions.proofs.CutRows.{tree_kept, weights_kept}
use Rattle.bw_questions.proofs.FreeRows.{near_bound, root_bound}

-- Two instances of which one is roomier around a group, with equal demands.
module _ (low high : Groups) (valid_low : IsInstance low) (valid_high : IsInstance high) (q : ℕ)
    (around : IsRoomierAround low high q)
    (demands : (h : ℕ) → demand_of high.rows h ≡ demand_of low.rows h) where
  tree : IsSameTree low.rows high.rows
  tree = around.no_less.tree

  demands_equal : (g : ℕ)
      → demand_of (busy_rows high.rows q) g ≡ demand_of (busy_rows low.rows q) g
  demands_equal = busy_demands low high valid_low valid_high q tree demands

  limits_low : (h : ℕ) → limit_of (busy_groups low q) h ≡ limit_of low h
  limits_low = busy_limits low valid_low q

  limits_high : (h : ℕ) → limit_of (busy_groups high q) h ≡ limit_of high h
  limits_high = busy_limits high valid_high q

  is_same : (a h : ℕ) → is_under (busy_rows low.rows q) a h ≡ is_under low.rows a h
  is_same = busy_under low valid_low q

  busy_around : IsRoomierAround (busy_groups low q) (busy_groups high q) q
  busy_around = record {
    no_less = record {
      tree = busy_tree low high valid_low valid_high q tree demands;
      demands = λ g. omega (arith, demands_equal g);
      limits = λ g limit e.
          let known = around.no_less.limits g limit (sym (limits_high g) ∙ e) in
          (known.0, limits_low g ∙ known.1, known.2);
    };
    weights = λ h.
        busy_weights high valid_high q h ∙ around.weights h ∙ sym (busy_weights low valid_low q h);
    above = λ h under.
        limits_high h ∙ around.above h (sym (is_same h q) ∙ under) ∙ sym (limits_low h);
    limits = λ h under.
        limits_high h ∙ around.limits h (sym (is_same q h) ∙ under) ∙ sym (limits_low h);
    demands = λ h under. demands_equal h;
  }

  -- A goal that is kept in the roomier groups is kept.
  kept_low : ThereIsOnePlan → OthersRoomGivesNothing → q < length low.rows → (goals : List ℕ)
      → IsKept high goals q → IsKept low goals q
  kept_low one room below goals =
      kept_beside low high valid_low valid_high q tree demands one below goals
      (λ xs ys low_plan high_plan.
      room (busy_groups low q) (busy_groups high q) q xs ys (busy_valid low valid_low q)
      (busy_valid high valid_high q) busy_around
      (omega (arith, below, busy_long low valid_low q)) low_plan high_plan)

module _ (groups : Groups) (valid : IsInstance groups) (goals : List ℕ) where
  -- A row with a goal at, above or below it is not free.
  near_stays : (q r : ℕ) → q < length groups.rows → 0 < get_or goals q 0
      → (is_under groups.rows q r || is_under groups.rows r q) ≡ true
      → is_free groups.rows goals r ≡ false
  near_stays q r below some near =
      near_bound groups.rows goals r q below
      (rw (lt-ltb 0 (get_or goals q 0) some, near) refl)

  pub root_unlimited : (limits : List ℕ) → AreCuts groups goals limits
      → capacity_of groups.shape ≤ get_or limits 0 0
  root_unlimited limits cuts =
      omega (
        arith,
        cuts.kept 0 valid.tree.has_root (root_bound groups.rows goals),
        root_full groups limits valid,
      )

  module _ (one : ThereIsOnePlan) (room : OthersRoomGivesNothing) (may : List Bool)
      (limits lower : List ℕ) (cuts : AreCuts groups goals limits)
      (lower_cuts : AreCuts groups goals lower)
      (less : (h : ℕ) → h < length groups.rows → get_or lower h 0 ≤ get_or limits h 0) where
    module _ (others : Groups) (other : IsReweightedAt (cut_to groups limits) others may) where
      whole_tree : IsSameTree groups.rows (cut_to others lower).rows
      whole_tree =
          let first = tree_kept groups limits in
          let last = tree_kept others lower in
          record {
            as_many = last.as_many ∙ other.tree.as_many ∙ first.as_many;
            parents = λ g. last.parents g ∙ other.tree.parents g ∙ first.parents g;
          }

      rows_as_many : length others.rows ≡ length groups.rows
      rows_as_many = other.tree.as_many ∙ as_many groups limits

      limits_equal : (h : ℕ) → limit_of (cut_to others lower) h ≡ limit_of (cut_to groups lower) h
      limits_equal zero = ap (λ (s : Shape). Some (capacity_of s)) other.shape
      limits_equal (suc h) = elim (cases_lt (suc h) (length groups.rows)) [
        | inl within ↦
            let own : own_limit others.rows (suc h)
            ≡ cut_limit (capacity_of groups.shape) (own_limit groups.rows (suc h))
            (get_or limits (suc h) 0) =
            other.limits (suc h) ∙ limit_here groups limits (suc h) within in
            limit_here others lower (suc h) (omega (arith, within, rows_as_many))
            ∙ ap (λ (s : Shape). cut_limit (capacity_of s) (own_limit others.rows (suc h))
            (get_or lower (suc h) 0)) other.shape
            ∙ ap (λ o. cut_limit (capacity_of groups.shape) o (get_or lower (suc h) 0)) own
            ∙ cut_twice (capacity_of groups.shape) (own_limit groups.rows (suc h))
            (get_or limits (suc h) 0) (get_or lower (suc h) 0) (less (suc h) within)
            ∙ sym (limit_here groups lower (suc h) within)
        | inr past ↦
            limit_past others lower (suc h) (omega (arith, past, rows_as_many))
            ∙ sym (limit_past groups lower (suc h) past)
      ]

      lower_valid : IsInstance (cut_to others lower)
      lower_valid =
          let same : capacity_of others.shape ≡ capacity_of groups.shape =
          ap capacity_of other.shape in
          cut-IsInstance others lower other.valid
          (omega (arith, same, root_unlimited lower lower_cuts))

      lower_reweighted : IsReweightedAt (cut_to groups lower) (cut_to others lower) may
      lower_reweighted =
          let low = tree_kept groups lower in
          record {
            valid = lower_valid;
            shape = other.shape;
            tree = record {
              as_many = whole_tree.as_many ∙ sym low.as_many;
              parents = λ g. whole_tree.parents g ∙ sym (low.parents g);
            };
            demands = λ h.
                demands_kept others lower h ∙ other.demands h ∙ demands_kept groups limits h
                ∙ sym (demands_kept groups lower h);
            limits = limits_equal;
            weights = λ h stays.
                weights_kept others lower h ∙ other.weights h stays
                ∙ weights_kept groups limits h ∙ sym (weights_kept groups lower h);
          }

      -- The limit of a row that is not free stays.
      same_at : (r : ℕ) → is_free groups.rows goals r ≡ false
          → limit_of others r ≡ limit_of (cut_to others lower) r
      same_at r stays =
          other.limits r
          ∙ limit_kept groups limits r (λ within. omega (arith, cuts.kept r within stays))
          ∙ sym (limit_kept groups lower r
          (λ within. omega (arith, lower_cuts.kept r within stays)))
          ∙ sym (limits_equal r)

      around : (q : ℕ) → q < length groups.rows → 0 < get_or goals q 0
          → IsRoomierAround (cut_to others lower) others q
      around q below some =
          let same : (a h : ℕ)
          → is_under (cut_to others lower).rows a h ≡ is_under groups.rows a h =
          under_same groups.rows (cut_to others lower).rows valid.tree lower_valid.tree whole_tree
          in
          record {
            no_less = roomier others lower;
            weights = λ h. sym (weights_kept others lower h);
            above = λ h under. same_at h (near_stays q h below some
                (rw (sym (same h q) ∙ under) (or-true (is_under groups.rows q h))));
            limits = λ h under. same_at h (near_stays q h below some
                (rw (sym (same q h) ∙ under) refl));
            demands = λ h under. sym (demands_kept others lower h);
          }

      met_lower : (measure : Measure) → AreMet measure others goals
          → AreMet measure (cut_to others lower) goals
      met_lower Planned reached =
          let next : HasOnePlan (cut_to others lower) = one (cut_to others lower) lower_valid in
          record {
            amounts = next.amounts;
            plan = next.plan;
            met = λ h below.
                let within : h < length groups.rows = omega (arith, below, whole_tree.as_many) in
                elim (cases_lt 0 (get_or goals h 0)) [
                  | inr none ↦ omega (arith, none)
                  | inl some ↦
                      omega (
                        arith,
                        reached.met h (omega (arith, within, rows_as_many)),
                        room (cut_to others lower) others h next.amounts reached.amounts
                            lower_valid other.valid (around h within some) below next.plan
                            reached.plan,
                      )
                ];
          }
      met_lower Guaranteed kept = λ h below.
          let within : h < length groups.rows = omega (arith, below, whole_tree.as_many) in
          elim (cases_lt 0 (get_or goals h 0)) [
            | inl some ↦
                kept_low (cut_to others lower) others lower_valid other.valid h
                (around h within some) (λ g. sym (demands_kept others lower g)) one room below
                goals (kept h (omega (arith, within, rows_as_many)))
            | inr none ↦
                no_goal (cut_to others lower) lower_valid h one below goals (omega (arith, none))
          ]

    -- What can be met with some limits, can be met with lower limits of free rows.
    pub met_with_lower : (measure : Measure) → CanBeMet measure groups goals may limits
        → CanBeMet measure groups goals may lower
    met_with_lower measure can = record {
      others = cut_to can.others lower;
      reweighted = lower_reweighted can.others can.reweighted;
      met = met_lower can.others can.reweighted measure can.met;
    }
