-- Two instances of one tree with equal demands, and the busy ones of a group of them.
use Rattle.std.proofs.Common.{◌≡◌, ℕ, ◌<◌, ◌≤◌, List, length, get_or, refl, sym, ◌∙◌, arith}
use Rattle.std.proofs.Common.{inl, inr}
use Rattle.std.proofs.lemmas.Bool.{cases_lt}
use Rattle.bw_model.specs.Groups.{Groups, IsInstance, demand_of, is_under, limit_of, weight_of}
use Rattle.bw_model.specs.Plan.{IsPlan}
use Rattle.bw_plan.specs.Laws.{HasOnePlan, ThereIsOnePlan}
use Rattle.bw_questions.specs.changes.Tree.{IsSameTree}
use Rattle.bw_questions.proofs.changes.OtherDemands.{limits_same, same_tree}
use Rattle.bw_questions.proofs.changes.Trees.{leaf_same, under_same}
use Rattle.bw_questions.proofs.changes.OtherDemands.{weights_same}
use Rattle.bw_questions.specs.Busy.{busy_rows}
use Rattle.bw_questions.specs.FromRoot.{IsKept}
use Rattle.bw_questions.specs.Guarantee.{IsGuaranteed}
use Rattle.bw_questions.proofs.AllBusy.{asks_nothing}
use Rattle.bw_questions.proofs.BusyRows.{AreBusy, are_busy, busy_demand, busy-IsInstance}
use Rattle.bw_questions.proofs.LeastAmount.{least}

-- the groups in which each leaf that is not under a group asks for the most
abbrev pub busy_groups : Groups → ℕ → Groups
busy_groups groups group = record { shape = groups.shape; rows = busy_rows groups.rows group }

module _ (groups : Groups) (valid : IsInstance groups) (q : ℕ) where
  are : AreBusy groups.rows q (busy_rows groups.rows q)
  are = are_busy groups.rows q

  pub busy_valid : IsInstance (busy_groups groups q)
  busy_valid = busy-IsInstance groups valid q (busy_rows groups.rows q) are

  pub busy_long : length (busy_rows groups.rows q) ≡ length groups.rows
  busy_long = are.alike.one_each

  pub to_busy : IsSameTree groups.rows (busy_rows groups.rows q)
  to_busy = same_tree groups.rows (busy_rows groups.rows q) are.alike

  pub busy_limits : (h : ℕ) → limit_of (busy_groups groups q) h ≡ limit_of groups h
  busy_limits = limits_same groups (busy_rows groups.rows q) are.alike

  pub busy_weights : (h : ℕ)
      → weight_of (busy_rows groups.rows q) h ≡ weight_of groups.rows h
  busy_weights = weights_same groups.rows (busy_rows groups.rows q) are.alike

  -- a row under another of the busy groups is under it
  pub busy_under : (a h : ℕ)
      → is_under (busy_rows groups.rows q) a h ≡ is_under groups.rows a h
  busy_under = under_same groups.rows (busy_rows groups.rows q) valid.tree busy_valid.tree to_busy

  -- A row without a goal has a guarantee.
  pub no_goal : ThereIsOnePlan → q < length groups.rows → (goals : List ℕ)
      → get_or goals q 0 ≡ 0 → IsKept groups goals q
  no_goal one below goals none =
      let busy : HasOnePlan (busy_groups groups q) = one (busy_groups groups q) busy_valid in
      record {
        least = get_or busy.amounts q 0;
        guarantee =
            least groups valid q (busy_rows groups.rows q) are below busy.amounts busy.plan;
        enough = omega (arith, none);
      }

module _ (low high : Groups) (valid_low : IsInstance low) (valid_high : IsInstance high) (q : ℕ)
    (tree : IsSameTree low.rows high.rows)
    (demands : (h : ℕ) → demand_of high.rows h ≡ demand_of low.rows h) where
  are_low : AreBusy low.rows q (busy_rows low.rows q)
  are_low = are_busy low.rows q

  are_high : AreBusy high.rows q (busy_rows high.rows q)
  are_high = are_busy high.rows q

  pub busy_demands : (g : ℕ)
      → demand_of (busy_rows high.rows q) g ≡ demand_of (busy_rows low.rows q) g
  busy_demands g = elim (cases_lt g (length low.rows)) [
    | inl within ↦
        let same : busy_demand high.rows q g ≡ busy_demand low.rows q g =
        rw (
          leaf_same low.rows high.rows tree g,
          under_same low.rows high.rows valid_low.tree valid_high.tree tree q g,
          demands g,
        ) refl in
        are_high.demands g (omega (arith, within, tree.as_many)) ∙ same
        ∙ sym (are_low.demands g within)
    | inr past ↦
        asks_nothing (busy_groups high q) g
        (omega (arith, past, tree.as_many, are_high.alike.one_each))
        ∙ sym (asks_nothing (busy_groups low q) g (omega (arith, past, are_low.alike.one_each)))
  ]

  pub busy_tree : IsSameTree (busy_rows low.rows q) (busy_rows high.rows q)
  busy_tree =
      let to_low = to_busy low valid_low q in
      let to_high = to_busy high valid_high q in
      record {
        as_many = to_high.as_many ∙ tree.as_many ∙ sym to_low.as_many;
        parents = λ g. to_high.parents g ∙ tree.parents g ∙ sym (to_low.parents g);
      }

  -- A goal that is kept in one is kept in the other, if its busy plan gives the row no less.
  pub kept_beside : ThereIsOnePlan → q < length low.rows → (goals : List ℕ)
      → ((xs ys : List ℕ) → IsPlan (busy_groups low q) xs → IsPlan (busy_groups high q) ys
      → get_or ys q 0 ≤ get_or xs q 0)
      → IsKept high goals q → IsKept low goals q
  kept_beside one below goals no_less kept =
      let lows : HasOnePlan (busy_groups low q) =
      one (busy_groups low q) (busy_valid low valid_low q) in
      let highs : HasOnePlan (busy_groups high q) =
      one (busy_groups high q) (busy_valid high valid_high q) in
      let inside : q < length high.rows = omega (arith, below, tree.as_many) in
      let told : IsGuaranteed high q (get_or highs.amounts q 0) =
      least high valid_high q (busy_rows high.rows q) are_high inside highs.amounts highs.plan in
      record {
        least = get_or lows.amounts q 0;
        guarantee =
            least low valid_low q (busy_rows low.rows q) are_low below lows.amounts lows.plan;
        enough =
            omega (
              arith,
              kept.enough,
              kept.guarantee.none_less told.reached.0 told.reached.1 told.reached.2 told.reached.3,
              told.reached.4,
              no_less lows.amounts highs.amounts lows.plan highs.plan,
            );
      }
