-- A greater weight, or more processors, reach what the lesser ones do.
use Rattle.std.proofs.Common.{◌≡◌, ℕ, zero, suc, ◌<◌, ◌≤◌, Some, length, get_or, refl, ap, sym}
use Rattle.std.proofs.Common.{◌∙◌, arith, inl, inr, subst}
use Rattle.std.proofs.Math.Nat.{mul-le-mul_right}
use Rattle.std.proofs.lemmas.Bool.{cases_eq}
use Rattle.bw_model.specs.declared.limits.TheConstants.{MIN_WEIGHT, MAX_WEIGHT}
use Rattle.bw_model.specs.Host.{slices_per_processor}
use Rattle.bw_model.specs.declared.row.Row.{Row}
use Rattle.bw_model.specs.Groups.{Groups, IsInstance, row_of, parent_of, limit_of}
use Rattle.bw_plan.specs.Laws.{HasOnePlan, ThereIsOnePlan}
use Rattle.bw_questions.specs.changes.Tree.{IsSameTree}
use Rattle.bw_questions.specs.changes.Host.{CapacityTakesNothing, IsRoomier}
use Rattle.bw_questions.specs.changes.Host.{RaisedLimitsServeNoLess}
use Rattle.bw_questions.specs.changes.Weight.{IsHeavier, RaisedWeightAloneGains}
use Rattle.bw_questions.specs.declared.least.setting.Setting.TheVariants.{Weight, Processors}
use Rattle.bw_questions.specs.Change.{with_weight, with_processors}
use Rattle.bw_questions.specs.Least.{Rises}
use Rattle.bw_questions.proofs.StillInstance.{field_same, weight_here, weight_other}
use Rattle.bw_questions.proofs.StillInstance.{as_many, row-IsInstance, processors-IsInstance}

-- the row of a group with another weight
abbrev pub weighed : Groups → ℕ → ℕ → Row
weighed groups group weight = record (row_of groups.rows group) { weight = weight }

-- An instance with another weight of one group is an instance.
pub weight-IsInstance : (groups : Groups) → IsInstance groups → (group weight : ℕ)
    → group < length groups.rows → MIN_WEIGHT ≤ weight → weight ≤ MAX_WEIGHT
    → IsInstance (with_weight groups group weight)
weight-IsInstance groups valid group weight inside least greatest =
    row-IsInstance groups group (weighed groups group weight) inside valid refl refl least greatest
    (λ root. ap (λ g. (row_of groups.rows g).limit) root ∙ valid.root_unlimited)

module _ (groups : Groups) (group : ℕ) (inside : group < length groups.rows) (v w : ℕ) where
  -- What a weight is not, is as it was.
  kept : {A : Type 0} (f : Row → A)
      → ((weight : ℕ) → f (weighed groups group weight) ≡ f (row_of groups.rows group)) → (h : ℕ)
      → f (row_of (with_weight groups group w).rows h)
      ≡ f (row_of (with_weight groups group v).rows h)
  kept f same h =
      field_same groups group (weighed groups group w) inside f (same w) h
      ∙ sym (field_same groups group (weighed groups group v) inside f (same v) h)

  limits_kept : (h : ℕ)
      → limit_of (with_weight groups group w) h ≡ limit_of (with_weight groups group v) h
  limits_kept zero = refl
  limits_kept (suc h) = kept (λ r. r.limit) (λ weight. refl) (suc h)

  same_tree : IsSameTree (with_weight groups group v).rows (with_weight groups group w).rows
  same_tree = record {
    as_many = as_many groups group (weighed groups group w) inside
        ∙ sym (as_many groups group (weighed groups group v) inside);
    parents = kept (λ r. r.parent) (λ weight. refl);
  }

  roomier : IsRoomier (with_weight groups group v) (with_weight groups group w)
  roomier = record {
    tree = same_tree;
    demands = λ h. omega (arith, kept (λ r. r.demand) (λ weight. refl) h);
    limits = λ h limit e. (limit, sym (limits_kept h) ∙ e, omega arith);
  }

  heavier : v ≤ w → IsHeavier (with_weight groups group v) (with_weight groups group w) group
  heavier le = record {
    tree = same_tree;
    demands = kept (λ r. r.demand) (λ weight. refl);
    limits = limits_kept;
    weights = λ h other. weight_other groups group (weighed groups group w) inside h other
        ∙ sym (weight_other groups group (weighed groups group v) inside h other);
    raised = rw (
      weight_here groups group (weighed groups group v) inside,
      weight_here groups group (weighed groups group w) inside,
    ) le;
  }

pub weights_rise : ThereIsOnePlan → RaisedLimitsServeNoLess → RaisedWeightAloneGains
    → (groups : Groups) → IsInstance groups → (group amount : ℕ) → group < length groups.rows
    → Rises groups Weight group amount
weights_rise one served gains groups valid group amount inside v w first le last reached =
    let va : IsInstance (with_weight groups group v) =
    weight-IsInstance groups valid group v inside first (omega (arith, le, last)) in
    let vb : IsInstance (with_weight groups group w) =
    weight-IsInstance groups valid group w inside (omega (arith, first, le)) last in
    let next : HasOnePlan (with_weight groups group w) = one (with_weight groups group w) vb in
    let no_less : get_or reached.amounts group 0 ≤ get_or next.amounts group 0 =
    elim (cases_eq group 0) [
      | inl root ↦
          subst (λ (g : ℕ). get_or reached.amounts g 0 ≤ get_or next.amounts g 0) (sym root)
          (served (with_weight groups group v) (with_weight groups group w) reached.amounts
          next.amounts va vb (roomier groups group inside v w) reached.plan next.plan)
      | inr deeper ↦
          let known : (p : ℕ) × (parent_of groups.rows group ≡ Some p) × (p < group) =
          valid.tree.parent_before group (omega (arith, deeper)) inside in
          (gains (with_weight groups group v) (with_weight groups group w) group known.0
          reached.amounts next.amounts va vb (heavier groups group inside v w le)
          (omega (arith, inside, as_many groups group (weighed groups group v) inside))
          (field_same groups group (weighed groups group v) inside (λ r. r.parent) refl group
          ∙ known.1) reached.plan next.plan).gains
    ] in
    record {
      amounts = next.amounts;
      plan = next.plan;
      enough = omega (arith, reached.enough, no_less);
    }

pub processors_rise : ThereIsOnePlan → CapacityTakesNothing → (groups : Groups)
    → IsInstance groups → (group amount : ℕ) → group < length groups.rows
    → Rises groups Processors group amount
processors_rise one takes groups valid group amount inside v w first le last reached =
    let va : IsInstance (with_processors groups v) =
    processors-IsInstance groups valid v first (omega (arith, le, last)) in
    let vb : IsInstance (with_processors groups w) =
    processors-IsInstance groups valid w (omega (arith, first, le)) last in
    let next : HasOnePlan (with_processors groups w) = one (with_processors groups w) vb in
    let no_less : get_or reached.amounts group 0 ≤ get_or next.amounts group 0 =
    takes groups.rows (with_processors groups v).shape (with_processors groups w).shape
    reached.amounts next.amounts va vb
    (mul-le-mul_right (slices_per_processor groups.shape) le) reached.plan next.plan group inside in
    record {
      amounts = next.amounts;
      plan = next.plan;
      enough = omega (arith, reached.enough, no_less);
    }
