-- Weights that meet goals by the plan in which each leaf asks for the most, and by the guarantees.
use Rattle.std.proofs.Common.{◌≡◌, ℕ, zero, suc, ◌<◌, ◌≤◌, List, [], ◌∷◌, Bool, length, get_or}
use Rattle.std.proofs.Common.{refl, ap, sym, ◌∙◌, arith, inl, inr}
use Rattle.std.proofs.lemmas.Bool.{cases_lt, cases_Bool}
use Rattle.std.proofs.lemmas.List.{get_or_past, length-map}
use Rattle.bw_model.specs.declared.row.Row.{Row}
use Rattle.bw_model.specs.Groups.{Groups, IsInstance, no_row, is_leaf}
use Rattle.bw_model.specs.Groups.{weight_of, demand_of, limit_of}
use Rattle.bw_model.specs.Demand.{AreMaxTotals, want_of}
use Rattle.bw_model.specs.Plan.{IsPlan}
use Rattle.bw_model.proofs.CallerLemmas.{AreMaxTotals-capped, capped, is_under-self}
use Rattle.bw_plan.specs.Laws.{HasOnePlan, ThereIsOnePlan}
use Rattle.bw_questions.specs.changes.Asked.{DemandsInsideOnlyCut}
use Rattle.bw_questions.specs.changes.Tree.{IsSameTree}
use Rattle.bw_questions.proofs.changes.Trees.{leaf_same, under_same}
use Rattle.bw_questions.specs.declared.from_root.least.Tuned.TheVariants.{Met}
use Rattle.bw_questions.specs.declared.from_root.measure.Measure.TheVariants.{Planned, Guaranteed}
use Rattle.bw_questions.specs.FromRoot.{AgreesAbove, AreMet, AreMetUnder, AreNeverMet, AreReached}
use Rattle.bw_questions.specs.FromRoot.{AreReachedUnder, AreRowWeights, IsKept}
use Rattle.bw_questions.specs.FromRoot.{IsNoLighter}
use Rattle.bw_questions.specs.FromRoot.{IsReweightedAt, IsTunedFromRoot, weighed}
use Rattle.bw_questions.specs.HeldRule.{everyone}
use Rattle.bw_questions.specs.Passes.{all_weights}
use Rattle.bw_questions.proofs.AllBusy.{IsBusied, asks_nothing, busied_everyone, fits_kept}
use Rattle.bw_questions.proofs.AllBusy.{kept_fits}
use Rattle.bw_questions.proofs.LeastLaw.{goal_fits, rule_same}
use Rattle.bw_questions.proofs.Paths.{above_le}
use Rattle.bw_questions.proofs.Weighed.{demands_kept, limits_kept, tree_kept, weight_at}
use Rattle.bw_questions.proofs.Weighed.{weight_past}
use Rattle.bw_questions.proofs.Weighed.{weighed-IsInstance}

-- Instances of one tree with equal limits: in the busy ones all demands are equal.
same_demands : (a b c d : Groups) → IsBusied a b → IsBusied c d → IsSameTree a.rows c.rows → (h : ℕ)
    → demand_of d.rows h ≡ demand_of b.rows h
same_demands a b c d one two tree h = elim (cases_lt h (length a.rows)) [
  | inr past ↦
      asks_nothing d h (omega (arith, past, tree.as_many, two.tree.as_many))
      ∙ sym (asks_nothing b h (omega (arith, past, one.tree.as_many)))
  | inl within ↦
      let below : h < length c.rows = omega (arith, within, tree.as_many) in
      elim (cases_Bool (is_leaf a.rows h)) [
        | inl leaf ↦
            two.most h below (leaf_same a.rows c.rows tree h ∙ leaf) ∙ sym (one.most h within leaf)
        | inr inner ↦
            two.valid.inner_idle h (omega (arith, below, two.tree.as_many))
            (leaf_same c.rows d.rows two.tree h ∙ leaf_same a.rows c.rows tree h ∙ inner)
            ∙ sym (one.valid.inner_idle h (omega (arith, within, one.tree.as_many))
            (leaf_same a.rows b.rows one.tree h ∙ inner))
      ]
]

-- the weight of a row in the list of all weights
weight_listed : (rows : List Row) (h : ℕ) → get_or (all_weights rows) h 0 ≡ weight_of rows h
weight_listed [] h = refl
weight_listed (row ∷ rows) zero = refl
weight_listed (row ∷ rows) (suc h) = weight_listed rows h

module _ (groups : Groups) (valid : IsInstance groups) (may : List Bool) where
  -- Other weights of the groups are other weights of the busy ones.
  pub busy_reweighted : (others : Groups) → IsReweightedAt groups others may
      → IsReweightedAt (everyone groups) (everyone others) may
  busy_reweighted others other =
      let here = busied_everyone groups valid in
      let there = busied_everyone others other.valid in
      record {
        valid = there.valid;
        shape = other.shape;
        tree = record {
          as_many = there.tree.as_many ∙ other.tree.as_many ∙ sym here.tree.as_many;
          parents = λ g.
              there.tree.parents g ∙ other.tree.parents g ∙ sym (here.tree.parents g);
        };
        demands = same_demands groups (everyone groups) others (everyone others) here there
            other.tree;
        limits = λ h. there.limits h ∙ other.limits h ∙ sym (here.limits h);
        weights = λ h stays.
            there.weights h ∙ other.weights h stays ∙ sym (here.weights h);
      }

  busy_heavier : (others : Groups) → IsReweightedAt groups others may → IsNoLighter groups others
      → IsNoLighter (everyone groups) (everyone others)
  busy_heavier others other heavier h =
      omega (
        arith,
        (busied_everyone groups valid).weights h,
        (busied_everyone others other.valid).weights h,
        heavier h,
      )

  -- Other weights of the busy groups, and the groups with these weights.
  module _ (tuned : Groups) (is : IsReweightedAt (everyone groups) tuned may) where
    as_many_rows : length tuned.rows ≡ length groups.rows
    as_many_rows = is.tree.as_many ∙ (busied_everyone groups valid).tree.as_many

    pub are_weights : AreRowWeights groups.rows (all_weights tuned.rows)
    are_weights = record {
      one_each = length-map tuned.rows (λ (r : Row). r.weight) ∙ as_many_rows;
      in_range = λ g below.
          rw (weight_listed tuned.rows g)
          (is.valid.weights g (omega (arith, below, as_many_rows)));
    }

    weight_back : (h : ℕ) → weight_of tuned.rows h
        ≡ weight_of (weighed groups (all_weights tuned.rows)).rows h
    weight_back h = elim (cases_lt h (length groups.rows)) [
      | inl within ↦
          sym (weight_at groups (all_weights tuned.rows) h within ∙ weight_listed tuned.rows h)
      | inr past ↦
          ap (λ (r : Row). r.weight)
          (get_or_past tuned.rows h no_row (omega (arith, past, as_many_rows)))
          ∙ sym (ap (λ (r : Row). r.weight) (get_or_past groups.rows h no_row past))
          ∙ sym (weight_past groups (all_weights tuned.rows) h past)
    ]

    pub back_reweighted : IsReweightedAt groups (weighed groups (all_weights tuned.rows)) may
    back_reweighted = record {
      valid = weighed-IsInstance groups (all_weights tuned.rows) valid are_weights;
      shape = refl;
      tree = tree_kept groups (all_weights tuned.rows);
      demands = demands_kept groups (all_weights tuned.rows);
      limits = limits_kept groups (all_weights tuned.rows);
      weights = λ h stays.
          sym (weight_back h) ∙ is.weights h stays ∙ (busied_everyone groups valid).weights h;
    }

    busied_back : IsBusied (weighed groups (all_weights tuned.rows)) tuned
    busied_back =
        let here = busied_everyone groups valid in
        let kept = tree_kept groups (all_weights tuned.rows) in
        record {
          valid = is.valid;
          tree = record {
            as_many = as_many_rows ∙ sym kept.as_many;
            parents = λ g. is.tree.parents g ∙ here.tree.parents g ∙ sym (kept.parents g);
          };
          weights = weight_back;
          limits = λ h.
              is.limits h ∙ here.limits h ∙ sym (limits_kept groups (all_weights tuned.rows) h);
          most = λ h below leaf.
              is.demands h
              ∙ here.most h (omega (arith, below, kept.as_many))
              (sym (leaf_same groups.rows (weighed groups (all_weights tuned.rows)).rows kept h)
              ∙ leaf);
        }

  module _ (one : ThereIsOnePlan) (cut : DemandsInsideOnlyCut) (most goals : List ℕ)
      (mosts_are : AreMaxTotals groups most) where
    rule_of : (others : Groups) → IsReweightedAt groups others may → (g : ℕ)
        → g < length others.rows
        → get_or most g 0 ≡ capped (limit_of others g) (want_of others most g)
    rule_of others other = rule_same groups others valid other.valid other.tree other.demands
        other.limits most (AreMaxTotals-capped groups valid.tree most mosts_are)

    -- What the guarantees meet, the busy plan meets.
    reached_here : (others : Groups) (other : IsReweightedAt groups others may) (h : ℕ)
        → h < length others.rows → IsKept others goals h → (ys : List ℕ)
        → IsPlan (everyone others) ys → (get_or goals h 0 ≤ get_or ys h 0)
        × (get_or goals h 0 ≤ get_or most h 0)
    reached_here others other h below kept ys is_plan =
        kept_fits others (everyone others) other.valid (busied_everyone others other.valid) h below
        most (rule_of others other) one cut goals kept ys is_plan

    reached : (others : Groups) → IsReweightedAt groups others may
        → AreMet Guaranteed others goals → AreReached (everyone others) goals
    reached others other met =
        let there = busied_everyone others other.valid in
        let next : HasOnePlan (everyone others) = one (everyone others) there.valid in
        record {
          amounts = next.amounts;
          plan = next.plan;
          met = λ h below.
              let inside : h < length others.rows = omega (arith, below, there.tree.as_many) in
              (reached_here others other h inside (met h inside) next.amounts next.plan).0;
        }

    reached_under : (others : Groups) → IsReweightedAt groups others may → (top : ℕ)
        → AreMetUnder Guaranteed others goals top
        → AreReachedUnder (everyone others) goals top
    reached_under others other top met =
        let there = busied_everyone others other.valid in
        let next : HasOnePlan (everyone others) = one (everyone others) there.valid in
        record {
          amounts = next.amounts;
          plan = next.plan;
          met = λ h below under.
              let inside : h < length others.rows = omega (arith, below, there.tree.as_many) in
              (reached_here others other h inside
              (met h inside
              (sym (under_same others.rows (everyone others).rows other.valid.tree
              there.valid.tree there.tree top h) ∙ under)) next.amounts next.plan).0;
        }

    -- A goal above the most of its row is never guaranteed.
    pub never_kept : (h : ℕ) → h < length groups.rows → get_or most h 0 < get_or goals h 0
        → ((k : ℕ) → h < k → k < length groups.rows → get_or goals k 0 ≤ get_or most k 0)
        → AreNeverMet Guaranteed groups goals may h
    never_kept h below above later = record {
      within = below;
      lowest = λ k k_in under apart.
          goal_fits groups valid most goals mosts_are k k_in
          (later k (omega (arith, above_le groups.rows valid.tree h k under, apart)) k_in);
      never = λ others other met.
          let there = busied_everyone others other.valid in
          let inside : h < length others.rows = omega (arith, below, other.tree.as_many) in
          let next : HasOnePlan (everyone others) = one (everyone others) there.valid in
          let fits = (reached_here others other h inside
          (met h inside (is_under-self others.rows other.valid.tree h)) next.amounts next.plan).1 in
          let clash : ⊥ = omega (arith, above, fits) in clash;
    }

    module _ (enough : (h : ℕ) → h < length groups.rows → get_or goals h 0 ≤ get_or most h 0) where
      -- What the busy plan meets, the guarantees meet.
      kept_back : (tuned : Groups) (is : IsReweightedAt (everyone groups) tuned may)
          → AreReached tuned goals
          → AreMet Guaranteed (weighed groups (all_weights tuned.rows)) goals
      kept_back tuned is met h below =
          let again = back_reweighted tuned is in
          let beside = busied_back tuned is in
          fits_kept (weighed groups (all_weights tuned.rows)) tuned again.valid beside h below most
          (rule_of (weighed groups (all_weights tuned.rows)) again) one cut goals met.amounts
          met.plan (met.met h (omega (arith, below, beside.tree.as_many)))
          (enough h (omega (arith, below, again.tree.as_many)))

      agrees_busy : (tuned : Groups) (is : IsReweightedAt (everyone groups) tuned may)
          (others : Groups) (other : IsReweightedAt groups others may) (h : ℕ)
          → AgreesAbove (weighed groups (all_weights tuned.rows)) others h
          → AgreesAbove tuned (everyone others) h
      agrees_busy tuned is others other h agrees a s p under apart up beside =
          let again = back_reweighted tuned is in
          let busied = busied_back tuned is in
          (busied_everyone others other.valid).weights s
          ∙ agrees a s p
          (sym (under_same (weighed groups (all_weights tuned.rows)).rows tuned.rows
          again.valid.tree busied.valid.tree busied.tree a h) ∙ under)
          apart (sym (busied.tree.parents a) ∙ up) (sym (busied.tree.parents s) ∙ beside)
          ∙ sym (busied.weights s)

      -- The least weights of the busy groups are those of the guarantees.
      pub tuned_busy : (tuned : Groups)
          → IsTunedFromRoot Planned (everyone groups) goals may (Met tuned)
          → IsTunedFromRoot Guaranteed groups goals may
          (Met (weighed groups (all_weights tuned.rows)))
      tuned_busy tuned (inl found) = inl (record {
        reweighted = back_reweighted tuned found.reweighted;
        no_lighter = λ h.
            omega (
              arith,
              found.no_lighter h,
              (busied_everyone groups valid).weights h,
              weight_back tuned found.reweighted h,
            );
        met = kept_back tuned found.reweighted found.met;
        least = λ others other heavier met h agrees.
            omega (
              arith,
              found.least (everyone others) (busy_reweighted others other)
                  (busy_heavier others other heavier) (reached others other met) h
                  (agrees_busy tuned found.reweighted others other h agrees),
              weight_back tuned found.reweighted h,
              (busied_everyone others other.valid).weights h,
            );
      })
      tuned_busy tuned (inr found) = inr (record {
        reweighted = back_reweighted tuned found.reweighted;
        met = kept_back tuned found.reweighted found.met;
        none_heavier = λ others other met heavier.
            found.none_heavier (everyone others) (busy_reweighted others other)
            (reached others other met) (busy_heavier others other heavier);
        least = λ others other met h agrees.
            omega (
              arith,
              found.least (everyone others) (busy_reweighted others other)
                  (reached others other met) h
                  (agrees_busy tuned found.reweighted others other h agrees),
              weight_back tuned found.reweighted h,
              (busied_everyone others other.valid).weights h,
            );
      })

      pub unmet_busy : (top : ℕ) → AreNeverMet Planned (everyone groups) goals may top
          → AreNeverMet Guaranteed groups goals may top
      unmet_busy top found = record {
        within = omega (arith, found.within, (busied_everyone groups valid).tree.as_many);
        lowest = λ h below under apart.
            goal_fits groups valid most goals mosts_are h below (enough h below);
        never = λ others other met.
            found.never (everyone others) (busy_reweighted others other)
            (reached_under others other top met);
      }
