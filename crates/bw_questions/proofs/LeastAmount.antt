-- The plan in which the others ask for the most gives a group the least.
use Rattle.std.proofs.Common.{◌≡◌, ℕ, ◌<◌, ◌≤◌, List, true, length, get_or, refl, ap, sym}
use Rattle.std.proofs.Common.{◌∙◌, arith, inl, inr}
use Rattle.std.proofs.lemmas.Bool.{cases_lt, cases_Bool}
use Rattle.std.proofs.lemmas.List.{get_or_past}
use Rattle.bw_model.specs.declared.row.Row.{Row}
use Rattle.bw_model.specs.Groups.{Groups, IsInstance, no_row, demand_of, is_leaf, is_under}
use Rattle.bw_model.specs.Plan.{IsPlan}
use Rattle.bw_questions.specs.changes.Room.{IsBusierAround}
use Rattle.bw_questions.proofs.changes.BusyLaw.{others_demands_give}
use Rattle.bw_questions.proofs.changes.Trees.{leaf_same}
use Rattle.bw_questions.specs.Guarantee.{IsAskedOtherwise, IsGuaranteed}
use Rattle.bw_questions.proofs.changes.OtherDemands.{same_tree, weights_same}
use Rattle.bw_questions.proofs.changes.Trees.{planned, under_same}
use Rattle.bw_questions.proofs.changes.OtherDemands.{limits_same}
use Rattle.bw_questions.proofs.BusyRows.{AreBusy, demand_leaf, busy-IsInstance, demands_under}

module _ (groups : Groups) (valid : IsInstance groups) (group : ℕ) (busy : List Row)
    (are : AreBusy groups.rows group busy) where
  pub busy_asked : IsAskedOtherwise groups (record { shape = groups.shape; rows = busy }) group
  busy_asked = record {
    valid = busy-IsInstance groups valid group busy are;
    tree = same_tree groups.rows busy are.alike;
    weights = weights_same groups.rows busy are.alike;
    limits = limits_same groups busy are.alike;
    inside = demands_under groups valid group busy are;
  }

  module _ (others : Groups) (asked : IsAskedOtherwise groups others group) where
    demands_less : (h : ℕ) → demand_of others.rows h ≤ demand_of busy h
    demands_less h = elim (cases_lt h (length others.rows)) [
      | inr past ↦
          let none : demand_of others.rows h ≡ 0 =
          ap (λ (r : Row). r.demand) (get_or_past others.rows h no_row past) in
          omega (arith, none)
      | inl within ↦ elim (cases_Bool (is_leaf groups.rows h)) [
        | inr inner ↦
            let none : demand_of others.rows h ≡ 0 =
            asked.valid.inner_idle h within
            (leaf_same groups.rows others.rows asked.tree h ∙ inner) in
            omega (arith, none)
        | inl leaf ↦ elim (cases_Bool (is_under groups.rows group h)) [
          | inl under ↦
              omega (
                arith,
                asked.inside h under,
                demands_under groups valid group busy are h under,
              )
          | inr out ↦
              rw (
                are.demands h (omega (arith, within, asked.tree.as_many)),
                demand_leaf groups valid group busy are h leaf out,
              )
              (asked.valid.demands h within)
        ]
      ]
    ]

    busier : IsBusierAround others (record { shape = groups.shape; rows = busy }) group
    busier = record {
      tree = record {
        as_many = are.alike.one_each ∙ sym asked.tree.as_many;
        parents = λ g. (same_tree groups.rows busy are.alike).parents g
            ∙ sym (asked.tree.parents g);
      };
      weights = λ h. weights_same groups.rows busy are.alike h ∙ sym (asked.weights h);
      limits = λ h. limits_same groups busy are.alike h ∙ sym (asked.limits h);
      demands = demands_less;
      inside = λ h under.
          let high : is_under groups.rows group h ≡ true =
          sym (under_same groups.rows others.rows valid.tree asked.valid.tree asked.tree group h)
          ∙ under in
          demands_under groups valid group busy are h high ∙ sym (asked.inside h high);
    }

  pub as_many : (amounts : List ℕ) → IsPlan (record { shape = groups.shape; rows = busy }) amounts
      → length amounts ≡ length groups.rows
  as_many amounts is_plan =
      let valid_busy : IsInstance (record { shape = groups.shape; rows = busy }) =
      busy-IsInstance groups valid group busy are in
      (planned (record { shape = groups.shape; rows = busy }) valid_busy amounts is_plan).one_each
      ∙ are.alike.one_each

  pub least : group < length groups.rows → (amounts : List ℕ)
      → IsPlan (record { shape = groups.shape; rows = busy }) amounts
      → IsGuaranteed groups group (get_or amounts group 0)
  least below amounts is_plan = record {
    within = below;
    none_less = λ others other_amounts asked is_other.
        others_demands_give others (record { shape = groups.shape; rows = busy }) group
        other_amounts amounts asked.valid (busy-IsInstance groups valid group busy are)
        (busier others asked) (omega (arith, below, asked.tree.as_many)) is_other is_plan;
    reached = (
      record { shape = groups.shape; rows = busy },
      amounts,
      busy_asked,
      is_plan,
      refl,
    );
  }
