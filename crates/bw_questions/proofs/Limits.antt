-- The least limit that reaches an amount is the amount.
use Rattle.std.proofs.Common.{◌≡◌, ◌≢◌, ℕ, zero, suc, ◌<◌, List, Option, None, Some, length}
use Rattle.std.proofs.Common.{get_or, refl, ap, sym, ◌∙◌, arith, inl, inr}
use Rattle.std.specs.Prelude.{min}
use Rattle.std.proofs.lemmas.Bool.{cases_eq}
use Rattle.bw_model.specs.declared.row.Row.{Row}
use Rattle.bw_model.specs.Groups.{Groups, IsInstance, row_of, limit_of}
use Rattle.bw_model.specs.Plan.{IsPlan}
use Rattle.bw_plan.specs.Laws.{HasOnePlan, ThereIsOnePlan}
use Rattle.bw_questions.specs.changes.Cut.{IsLimitedAt, LimitOnlyCuts}
use Rattle.bw_questions.specs.changes.Host.{IsRoomier}
use Rattle.bw_questions.specs.changes.Tree.{IsSameTree}
use Rattle.bw_questions.proofs.changes.Trees.{limit_below}
use Rattle.bw_questions.specs.Change.{with_limit}
use Rattle.bw_questions.specs.Least.{Reaches, IsLeastLimit}
use Rattle.bw_questions.proofs.StillInstance.{field_same, row_here, row_other, as_many}
use Rattle.bw_questions.proofs.StillInstance.{row-IsInstance}

-- the row of a group with another limit
abbrev limited : Groups → ℕ → Option ℕ → Row
limited groups group limit = record (row_of groups.rows group) { limit = limit }

-- An instance with another limit of one group below the root is an instance.
pub limit-IsInstance : (groups : Groups) → IsInstance groups → (group : ℕ) (limit : Option ℕ)
    → group < length groups.rows → 0 < group → IsInstance (with_limit groups group limit)
limit-IsInstance groups valid group limit inside deeper =
    row-IsInstance groups group (limited groups group limit) inside valid refl refl
    (valid.weights group inside).0 (valid.weights group inside).1
    (λ root. absurd (omega (arith, root, deeper)))

-- The limits of two instances that differ at one row.
other_limit : (one two : Groups) (h : ℕ) → one.shape ≡ two.shape
    → row_of one.rows h ≡ row_of two.rows h → limit_of one h ≡ limit_of two h
other_limit one two zero shape row =
    ap (λ s. limit_of (record { shape = s; rows = one.rows }) 0) shape
other_limit one two (suc h) shape row = ap (λ (r : Row). r.limit) row

module _ (groups : Groups) (valid : IsInstance groups) (group : ℕ)
    (inside : group < length groups.rows) (deeper : 0 < group) (limit : ℕ) where
  kept : {A : Type 0} (f : Row → A)
      → ((l : Option ℕ) → f (limited groups group l) ≡ f (row_of groups.rows group)) → (h : ℕ)
      → f (row_of (with_limit groups group None).rows h)
      ≡ f (row_of (with_limit groups group (Some limit)).rows h)
  kept f same h =
      field_same groups group (limited groups group None) inside f (same None) h
      ∙ sym (field_same groups group (limited groups group (Some limit)) inside f
      (same (Some limit)) h)

  limit_is : (l : Option ℕ) → limit_of (with_limit groups group l) group ≡ l
  limit_is l = limit_below (with_limit groups group l) group deeper
      ∙ ap (λ (r : Row). r.limit) (row_here groups group (limited groups group l) inside)

  others_kept : (h : ℕ) → h ≢ group → limit_of (with_limit groups group None) h
      ≡ limit_of (with_limit groups group (Some limit)) h
  others_kept h other =
      other_limit (with_limit groups group None) (with_limit groups group (Some limit)) h refl
      (row_other groups group (limited groups group None) inside h other
      ∙ sym (row_other groups group (limited groups group (Some limit)) inside h other))

  same_tree : IsSameTree (with_limit groups group (Some limit)).rows
      (with_limit groups group None).rows
  same_tree = record {
    as_many = as_many groups group (limited groups group None) inside
        ∙ sym (as_many groups group (limited groups group (Some limit)) inside);
    parents = kept (λ r. r.parent) (λ l. refl);
  }

  roomier : IsRoomier (with_limit groups group (Some limit)) (with_limit groups group None)
  roomier = record {
    tree = same_tree;
    demands = λ h. omega (arith, kept (λ r. r.demand) (λ l. refl) h);
    limits = λ h l e. elim (cases_eq h group) [
      | inl here ↦ absurd
          (let clash : None ≡ Some l =
          sym (limit_is None) ∙ ap (limit_of (with_limit groups group None)) (sym here) ∙ e in
          cc)
      | inr other ↦ (l, sym (others_kept h other) ∙ e, omega arith)
    ];
  }

  one_limit : IsLimitedAt (with_limit groups group (Some limit)) (with_limit groups group None)
      group limit
  one_limit = record {
    more = record {
      no_less = roomier;
      weights = kept (λ r. r.weight) (λ l. refl);
      demands = λ h other. kept (λ r. r.demand) (λ l. refl) h;
      limits = others_kept;
    };
    demand = kept (λ r. r.demand) (λ l. refl) group;
    with_limit = limit_is (Some limit);
    without = limit_is None;
  }

  -- The amounts with the limit and without.
  cut : LimitOnlyCuts → (xs ys : List ℕ) → IsPlan (with_limit groups group (Some limit)) xs
      → IsPlan (with_limit groups group None) ys
      → get_or xs group 0 ≡ min (get_or ys group 0) limit
  cut law xs ys is_plan is_other =
      law (with_limit groups group (Some limit)) (with_limit groups group None) group limit xs ys
      (limit-IsInstance groups valid group (Some limit) inside deeper)
      (limit-IsInstance groups valid group None inside deeper) one_limit
      (omega (arith, inside, as_many groups group (limited groups group (Some limit)) inside))
      is_plan is_other

pub amount_is_least : ThereIsOnePlan → LimitOnlyCuts → (groups : Groups) → IsInstance groups
    → (group amount : ℕ) → group < length groups.rows → 0 < group
    → Reaches (with_limit groups group None) group amount
    → IsLeastLimit groups group amount (Some amount)
amount_is_least one law groups valid group amount inside deeper free =
    let known : HasOnePlan (with_limit groups group (Some amount)) =
    one (with_limit groups group (Some amount))
    (limit-IsInstance groups valid group (Some amount) inside deeper) in
    let same : get_or known.amounts group 0 ≡ min (get_or free.amounts group 0) amount =
    cut groups valid group inside deeper amount law known.amounts free.amounts known.plan
    free.plan in (
      record {
        amounts = known.amounts;
        plan = known.plan;
        enough = omega (arith, same, free.enough);
      },
      λ lower less reached.
          let lesser : get_or reached.amounts group 0 ≡ min (get_or free.amounts group 0) lower =
          cut groups valid group inside deeper lower law reached.amounts free.amounts reached.plan
          free.plan in
          omega (arith, lesser, reached.enough, less),
    )

pub none_is_least : ThereIsOnePlan → LimitOnlyCuts → (groups : Groups) → IsInstance groups
    → (group amount : ℕ) → group < length groups.rows → 0 < group
    → (Reaches (with_limit groups group None) group amount → ⊥)
    → IsLeastLimit groups group amount None
none_is_least one law groups valid group amount inside deeper short None = short
none_is_least one law groups valid group amount inside deeper short (Some limit) = λ reached.
    let known : HasOnePlan (with_limit groups group None) =
    one (with_limit groups group None)
    (limit-IsInstance groups valid group None inside deeper) in
    let same : get_or reached.amounts group 0 ≡ min (get_or known.amounts group 0) limit =
    cut groups valid group inside deeper limit law reached.amounts known.amounts reached.plan
    known.plan in
    short (record {
      amounts = known.amounts;
      plan = known.plan;
      enough = omega (arith, same, reached.enough);
    })
