-- The instance that lower limits make.
use Rattle.std.proofs.Common.{◌≡◌, ℕ, zero, suc, ◌<◌, ◌≤◌, List, Option, None, Some, length, get_or}
use Rattle.std.proofs.Common.{refl, ap, sym, ◌∙◌, arith, inl, inr}
use Rattle.std.specs.Prelude.{min, nat_lt, if◌then◌else◌}
use Rattle.std.specs.Option.{option_map_or}
use Rattle.std.proofs.lemmas.Bool.{cases_lt, lt-ltb, le-ltb}
use Rattle.std.proofs.lemmas.List.{get_or_past}
use Rattle.std.proofs.lemmas.Option.{same_Some}
use Rattle.bw_model.specs.declared.row.Row.{Row}
use Rattle.bw_model.specs.Groups.{Groups, IsInstance, no_row}
use Rattle.bw_model.specs.Groups.{demand_of, weight_of, limit_of}
use Rattle.bw_model.specs.Host.{capacity_of}
use Rattle.bw_questions.specs.changes.Host.{IsRoomier}
use Rattle.bw_questions.specs.changes.Tree.{IsSameTree}
use Rattle.bw_questions.specs.HeldRule.{own_limit}
use Rattle.bw_questions.specs.OtherLimits.{cut_row, cut_to, full_limit}
use Rattle.bw_questions.proofs.ChangedRows as changed
use Rattle.bw_questions.proofs.LeastLaw.{none_some}

-- the limit in force on a host of this capacity
abbrev pub in_force : ℕ → Option ℕ → ℕ
in_force capacity own = option_map_or (min capacity) own capacity

-- a limit, where it is below the one in force
abbrev pub cut_limit : ℕ → Option ℕ → ℕ → Option ℕ
cut_limit capacity own limit = if nat_lt limit (in_force capacity own) then Some limit else own

in_force_le : (capacity : ℕ) (own : Option ℕ) → in_force capacity own ≤ capacity
in_force_le capacity None = omega arith
in_force_le capacity (Some limit) = omega arith

pub cut_below : (capacity : ℕ) (own : Option ℕ) (limit : ℕ) → limit < in_force capacity own
    → cut_limit capacity own limit ≡ Some limit
cut_below capacity own limit below = rw (lt-ltb limit (in_force capacity own) below) refl

pub cut_none : (capacity : ℕ) (own : Option ℕ) (limit : ℕ) → in_force capacity own ≤ limit
    → cut_limit capacity own limit ≡ own
cut_none capacity own limit past = rw (le-ltb limit (in_force capacity own) past) refl

-- A lower limit beside a limit is the lower limit alone.
pub cut_twice : (capacity : ℕ) (own : Option ℕ) (limit lower : ℕ) → lower ≤ limit
    → cut_limit capacity (cut_limit capacity own limit) lower ≡ cut_limit capacity own lower
cut_twice capacity own limit lower less = elim (cases_lt limit (in_force capacity own)) [
  | inr past ↦ rw (cut_none capacity own limit past) refl
  | inl below ↦
      let small : limit ≤ capacity = omega (arith, below, in_force_le capacity own) in
      rw (cut_below capacity own limit below, cut_below capacity own lower (omega (arith, less, below)))
      (elim (cases_lt lower limit) [
        | inl apart ↦ cut_below capacity (Some limit) lower (omega (arith, apart, small))
        | inr same ↦
            cut_none capacity (Some limit) lower (omega (arith, same))
            ∙ ap (λ (l : ℕ). Some l) (omega (arith, same, less))
      ])
]

-- A limit below the one in force is no higher than a limit that is there.
cut_lower : (capacity : ℕ) (own : Option ℕ) (limit before : ℕ) → own ≡ Some before
    → (lower : ℕ) × (cut_limit capacity own limit ≡ Some lower) × (lower ≤ before)
cut_lower capacity None limit before e = absurd (none_some before e)
cut_lower capacity (Some own) limit before e = elim (cases_lt limit (min capacity own)) [
  | inl below ↦ (
    limit,
    cut_below capacity (Some own) limit below,
    omega (arith, below, same_Some own before e),
  )
  | inr past ↦ (own, cut_none capacity (Some own) limit past, omega (arith, same_Some own before e))
]

module _ (groups : Groups) (limits : List ℕ) where
  abbrev row : ℕ → Row
  row = cut_row groups limits

  pub as_many : length (cut_to groups limits).rows ≡ length groups.rows
  as_many = changed.as_many groups row

  pub tree_kept : IsSameTree groups.rows (cut_to groups limits).rows
  tree_kept = changed.tree_kept groups row (λ g. refl)

  pub weights_kept : (g : ℕ) → weight_of (cut_to groups limits).rows g ≡ weight_of groups.rows g
  weights_kept = changed.everywhere groups row (λ r. r.weight) (λ g. refl)

  pub demands_kept : (g : ℕ) → demand_of (cut_to groups limits).rows g ≡ demand_of groups.rows g
  demands_kept = changed.everywhere groups row (λ r. r.demand) (λ g. refl)

  pub limit_here : (g : ℕ) → g < length groups.rows → own_limit (cut_to groups limits).rows g
      ≡ cut_limit (capacity_of groups.shape) (own_limit groups.rows g) (get_or limits g 0)
  limit_here g below = ap (λ (r : Row). r.limit) (changed.row_at groups row g below)

  pub limit_past : (g : ℕ) → length groups.rows ≤ g
      → own_limit (cut_to groups limits).rows g ≡ None
  limit_past g past =
      ap (λ (r : Row). r.limit)
      (changed.row_past groups row g past ∙ get_or_past groups.rows g no_row past)

  -- A limit from the one in force on changes nothing.
  pub own_kept : (g : ℕ) → (g < length groups.rows → full_limit groups g ≤ get_or limits g 0)
      → own_limit (cut_to groups limits).rows g ≡ own_limit groups.rows g
  own_kept g full = elim (cases_lt g (length groups.rows)) [
    | inl within ↦
        limit_here g within
        ∙ cut_none (capacity_of groups.shape) (own_limit groups.rows g) (get_or limits g 0)
        (full within)
    | inr past ↦ ap (λ (r : Row). r.limit) (changed.row_past groups row g past)
  ]

  pub limit_kept : (g : ℕ) → (g < length groups.rows → full_limit groups g ≤ get_or limits g 0)
      → limit_of (cut_to groups limits) g ≡ limit_of groups g
  limit_kept zero full = refl
  limit_kept (suc g) full = own_kept (suc g) full

  -- The groups are roomier.
  pub roomier : IsRoomier (cut_to groups limits) groups
  roomier = record {
    tree = record { as_many = sym as_many; parents = λ g. sym (tree_kept.parents g) };
    demands = λ g. omega (arith, demands_kept g);
    limits = no_higher;
  }
    where
      no_higher : (g limit : ℕ) → limit_of groups g ≡ Some limit
          → (lower : ℕ) × (limit_of (cut_to groups limits) g ≡ Some lower) × (lower ≤ limit)
      no_higher zero limit e = (limit, e, omega arith)
      no_higher (suc g) limit e = elim (cases_lt (suc g) (length groups.rows)) [
        | inl within ↦
            let known = cut_lower (capacity_of groups.shape) (own_limit groups.rows (suc g))
            (get_or limits (suc g) 0) limit e in
            (known.0, limit_here (suc g) within ∙ known.1, known.2)
        | inr past ↦ (
          limit,
          ap (λ (r : Row). r.limit) (changed.row_past groups row (suc g) past) ∙ e,
          omega arith,
        )
      ]

  module _ (valid : IsInstance groups) where
    -- The limit in force of the root is the capacity.
    pub root_full : full_limit groups 0 ≡ capacity_of groups.shape
    root_full = ap (in_force (capacity_of groups.shape)) valid.root_unlimited

    pub cut-IsInstance : capacity_of groups.shape ≤ get_or limits 0 0
        → IsInstance (cut_to groups limits)
    cut-IsInstance unlimited =
        changed.changed-IsInstance groups row (λ g. refl) (λ g. refl) valid valid.weights
        (cut_none (capacity_of groups.shape) (own_limit groups.rows 0) (get_or limits 0 0)
        (omega (arith, root_full, unlimited)) ∙ valid.root_unlimited)
