-- The instance that the rows make with greater demands of the leaves outside a group.
use Rattle.std.proofs.Common.{◌≡◌, ℕ, ◌<◌, ◌≤◌, List, Bool, true, false, Option, None, Some, length}
use Rattle.std.proofs.Common.{refl, ap, sym, ◌∙◌, arith, inl, inr, eqb, ◌||◌}
use Rattle.std.proofs.Common.{get_or}
use Rattle.std.specs.Prelude.{◌&&◌, not, map}
use Rattle.std.specs.List.{range_with_len}
use Rattle.std.proofs.Math.Bool.{or-false}
use Rattle.std.proofs.lemmas.Bool.{cases_lt, cases_Bool}
use Rattle.std.proofs.lemmas.List.{get_or_past}
use Rattle.std.proofs.lemmas.List.FromFn.{get_or-map-range_with_len, length-map-range_with_len}
use Rattle.bw_model.specs.declared.row.Row.{Row}
use Rattle.bw_model.specs.declared.limits.TheConstants.{MAX_DEMAND}
use Rattle.bw_model.specs.Groups.{Groups, IsInstance, AreTreeRows, no_row, parent_of, row_of}
use Rattle.bw_model.specs.Groups.{demand_of, is_leaf, is_under}
use Rattle.bw_model.proofs.CallerLemmas.{parent_lt, is_under-step, is_under-top}
use Rattle.bw_questions.proofs.changes.OtherDemands.{AreAlike, other_demands-IsInstance}
use Rattle.bw_questions.specs.Busy.{flag_of, busy_row, busy_rows}

-- The next row's flag, by those before it.
pub next_flag : (rows : List Row) → AreTreeRows rows → (group g : ℕ) (flags : List Bool)
    → flags ≡ map (is_under rows group) (range_with_len 0 g) → (parent : Option ℕ)
    → parent_of rows g ≡ parent → (eqb g group || flag_of flags parent) ≡ is_under rows group g
next_flag rows tree group g flags done None up =
    or-false (eqb g group) ∙ sym (is_under-top rows tree group g up)
next_flag rows tree group g flags done (Some p) up =
    ap (λ flag. eqb g group || flag)
    (ap (λ xs. get_or xs p false) done
    ∙ get_or-map-range_with_len (is_under rows group) 0 g p p false (parent_lt rows tree g p up)
    (omega arith))
    ∙ sym (is_under-step rows tree group g p up)

-- the demand of a row in the busy rows
abbrev pub busy_demand : List Row → ℕ → ℕ → ℕ
busy_demand rows group g = (busy_row rows g (is_under rows group g)).demand

-- What the busy rows have of the rows, and their demands.
pub record AreBusy (rows : List Row) (group : ℕ) (busy : List Row) : Type 0 where
  pub alike : AreAlike rows busy
  pub demands : (g : ℕ) → g < length rows → demand_of busy g ≡ busy_demand rows group g

busy_at : (rows : List Row) (group g : ℕ) → g < length rows
    → row_of (busy_rows rows group) g ≡ busy_row rows g (is_under rows group g)
busy_at rows group g below =
    get_or-map-range_with_len (λ h. busy_row rows h (is_under rows group h)) 0 (length rows) g g
    no_row below (omega arith)

pub are_busy : (rows : List Row) (group : ℕ) → AreBusy rows group (busy_rows rows group)
are_busy rows group = record {
  alike = record {
    one_each =
        length-map-range_with_len (λ g. busy_row rows g (is_under rows group g)) 0 (length rows);
    parents = λ g below. ap (λ (r : Row). r.parent) (busy_at rows group g below);
    weights = λ g below. ap (λ (r : Row). r.weight) (busy_at rows group g below);
    limits = λ g below. ap (λ (r : Row). r.limit) (busy_at rows group g below);
  };
  demands = λ g below. ap (λ (r : Row). r.demand) (busy_at rows group g below);
}

module _ (groups : Groups) (valid : IsInstance groups) (group : ℕ) (busy : List Row)
    (are : AreBusy groups.rows group busy) where
  demand_within : (h : ℕ) → h < length groups.rows → busy_demand groups.rows group h ≤ MAX_DEMAND
  demand_within h below =
      elim (cases_Bool (is_leaf groups.rows h && not (is_under groups.rows group h))) [
        | inl most ↦ rw most (omega arith)
        | inr own ↦ rw own (valid.demands h below)
      ]

  -- A group with children keeps its demand.
  demand_inner : (h : ℕ) → is_leaf groups.rows h ≡ false
      → busy_demand groups.rows group h ≡ demand_of groups.rows h
  demand_inner h inner = rw inner refl

  -- The group and what is below it keep their demands.
  pub demand_under : (h : ℕ) → is_under groups.rows group h ≡ true
      → busy_demand groups.rows group h ≡ demand_of groups.rows h
  demand_under h under = elim (cases_Bool (is_leaf groups.rows h)) [
    | inl leaf ↦ rw (leaf, under) refl
    | inr inner ↦ rw inner refl
  ]

  pub demand_leaf : (h : ℕ) → is_leaf groups.rows h ≡ true → is_under groups.rows group h ≡ false
      → busy_demand groups.rows group h ≡ MAX_DEMAND
  demand_leaf h leaf out = rw (leaf, out) refl

  pub busy-IsInstance : IsInstance (record { shape = groups.shape; rows = busy })
  busy-IsInstance = other_demands-IsInstance groups busy are.alike valid
      (λ g below. rw (are.demands g below) (demand_within g below))
      (λ g below inner.
      are.demands g below ∙ demand_inner g inner ∙ valid.inner_idle g below inner)

  pub demands_under : (h : ℕ) → is_under groups.rows group h ≡ true
      → demand_of busy h ≡ demand_of groups.rows h
  demands_under h under = elim (cases_lt h (length groups.rows)) [
    | inl within ↦ are.demands h within ∙ demand_under h under
    | inr past ↦
        ap (λ (r : Row). r.demand)
        (get_or_past busy h no_row (omega (arith, past, are.alike.one_each)))
        ∙ sym (ap (λ (r : Row). r.demand) (get_or_past groups.rows h no_row past))
  ]
