-- The groups with other demands: an instance of one tree, with equal weights and limits.
use Rattle.std.proofs.Common.{◌≡◌, ℕ, ◌<◌, ◌≤◌, List, Bool, true, false, Some, length}
use Rattle.std.proofs.Common.{refl, ap, ◌∙◌, arith, inl, inr, ◌+◌, zero, suc, get_or, ◌∷◌, []}
use Rattle.std.specs.Prelude.{map, replicate, ◌&&◌, not, if◌then◌else◌}
use Rattle.std.specs.List.{range_with_len}
use Rattle.std.proofs.lemmas.Bool.{cases_Bool}
use Rattle.std.proofs.lemmas.List.{get_or_default}
use Rattle.std.proofs.lemmas.List.FromFn.{get_or-map-range_with_len, length-map-range_with_len}
use Rattle.std.proofs.lemmas.List.FromFn.{get_or-range_with_len, length-range_with_len}
use Rattle.bw_model.specs.declared.row.Row.{Row}
use Rattle.bw_model.specs.declared.limits.TheConstants.{MAX_CAPACITY, MAX_DEMAND}
use Rattle.bw_model.specs.Groups.{Groups, IsInstance, no_row, parent_of, row_of}
use Rattle.bw_model.specs.Groups.{weight_of, demand_of, limit_of, is_leaf}
use Rattle.bw_model.specs.Plan.{IsPlan}
use Rattle.bw_model.proofs.CallerLemmas.{get_or_within}
use Rattle.bw_questions.proofs.changes.OtherDemands.{AreAlike, limits_same}
use Rattle.bw_questions.proofs.changes.Trees.{planned}
use Rattle.bw_questions.proofs.changes.OtherDemands.{other_demands-IsInstance}
use Rattle.bw_questions.specs.HeldRule.{asking, row_asking, demand_where, own_limit, is_hungry, round_of}
use Rattle.bw_questions.specs.HeldRule.{everyone, leaf_limit, round_limit}

-- A plan has one amount for each row.
pub amount_each : (groups : Groups) → IsInstance groups → (amounts : List ℕ)
    → IsPlan groups amounts → length amounts ≡ length groups.rows
amount_each groups valid amounts is_plan = (planned groups valid amounts is_plan).one_each

-- No amount is above the capacity of the greatest host.
pub amount_small : (groups : Groups) → IsInstance groups → (amounts : List ℕ)
    → IsPlan groups amounts → (g : ℕ) → g < length groups.rows → get_or amounts g 0 ≤ MAX_CAPACITY
amount_small groups valid amounts is_plan = (planned groups valid amounts is_plan).small

module _ (groups : Groups) (demand : ℕ → ℕ) where
  pub as_many : length (asking groups demand).rows ≡ length groups.rows
  as_many = length-map-range_with_len (row_asking groups.rows demand) 0 (length groups.rows)

  row_at : (g : ℕ) → g < length groups.rows
      → row_of (asking groups demand).rows g ≡ row_asking groups.rows demand g
  row_at g below =
      get_or-map-range_with_len (row_asking groups.rows demand) 0 (length groups.rows) g g no_row
      below (omega arith)

  pub demand_at : (g : ℕ) → g < length groups.rows
      → demand_of (asking groups demand).rows g ≡ demand g
  demand_at g below = ap (λ (r : Row). r.demand) (row_at g below)

  pub asking_alike : AreAlike groups.rows (asking groups demand).rows
  asking_alike = record {
    one_each = as_many;
    parents = λ g below. ap (λ (r : Row). r.parent) (row_at g below);
    weights = λ g below. ap (λ (r : Row). r.weight) (row_at g below);
    limits = λ g below. ap (λ (r : Row). r.limit) (row_at g below);
  }

  pub asking_limits : (g : ℕ) → limit_of (asking groups demand) g ≡ limit_of groups g
  asking_limits = limits_same groups (asking groups demand).rows asking_alike

-- Groups that ask for as much at each row are the same.
pub asking_same : (groups : Groups) (f h : ℕ → ℕ) → ((g : ℕ) → g < length groups.rows → f g ≡ h g)
    → asking groups f ≡ asking groups h
asking_same groups f h same =
    ap (λ rows. record { shape = groups.shape; rows = rows })
    (same_rows (range_with_len 0 (length groups.rows)) (λ k below.
    same (get_or (range_with_len 0 (length groups.rows)) k 0) (in_range k below)))
  where
    in_range : (k : ℕ) → k < length (range_with_len 0 (length groups.rows))
        → get_or (range_with_len 0 (length groups.rows)) k 0 < length groups.rows
    in_range k below =
        let long : length (range_with_len 0 (length groups.rows)) ≡ length groups.rows =
        length-range_with_len 0 (length groups.rows) in
        let at : get_or (range_with_len 0 (length groups.rows)) k 0 ≡ 0 + k =
        get_or-range_with_len 0 (length groups.rows) k 0 (omega (arith, below, long)) in
        omega (arith, below, long, at)

    same_rows : (gs : List ℕ) → ((k : ℕ) → k < length gs → f (get_or gs k 0) ≡ h (get_or gs k 0))
        → map (row_asking groups.rows f) gs ≡ map (row_asking groups.rows h) gs
    same_rows [] e = refl
    same_rows (g ∷ gs) e =
        let rest : map (row_asking groups.rows f) gs ≡ map (row_asking groups.rows h) gs =
        same_rows gs (λ k below. e (suc k) (omega (arith, below))) in
        let first : row_asking groups.rows f g ≡ row_asking groups.rows h g =
        ap (λ d. record {
          parent = parent_of groups.rows g;
          weight = weight_of groups.rows g;
          limit = own_limit groups.rows g;
          demand = d;
        }) (e 0 (omega arith)) in
        rw (first, rest) refl

module _ (groups : Groups) (valid : IsInstance groups) (flag : ℕ → Bool) where
  where_small : (g : ℕ) → g < length groups.rows
      → demand_where groups.rows (flag g) g ≤ MAX_DEMAND
  where_small g below = elim (cases_Bool (flag g && is_leaf groups.rows g)) [
    | inl most ↦ rw most (omega arith)
    | inr own ↦ rw own (valid.demands g below)
  ]

  where_idle : (g : ℕ) → g < length groups.rows → is_leaf groups.rows g ≡ false
      → demand_where groups.rows (flag g) g ≡ 0
  where_idle g below inner = elim (cases_Bool (flag g)) [
    | inl yes' ↦ rw (yes', inner) (valid.inner_idle g below inner)
    | inr no' ↦ rw no' (valid.inner_idle g below inner)
  ]

  pub where-IsInstance : IsInstance (asking groups (λ g. demand_where groups.rows (flag g) g))
  where-IsInstance =
      other_demands-IsInstance groups
      (asking groups (λ g. demand_where groups.rows (flag g) g)).rows
      (asking_alike groups (λ g. demand_where groups.rows (flag g) g)) valid
      (λ g below. rw (demand_at groups (λ h. demand_where groups.rows (flag h) h) g below)
      (where_small g below))
      (λ g below inner.
      demand_at groups (λ h. demand_where groups.rows (flag h) h) g below
      ∙ where_idle g below inner)

pub round-IsInstance : (used : Groups) → IsInstance used → (hungry : List Bool)
    → IsInstance (round_of used hungry)
round-IsInstance used valid hungry = where-IsInstance used valid (is_hungry hungry)

pub everyone-IsInstance : (groups : Groups) → IsInstance groups → IsInstance (everyone groups)
everyone-IsInstance groups valid = where-IsInstance groups valid (λ g. true)

-- The row of a group by its flag in a list.
pub row_read : (rows : List Row) (hungry : List Bool) (g : ℕ) (d : Bool) → g < length hungry
    → row_asking rows (λ h. demand_where rows (get_or hungry g d) h) g
    ≡ row_asking rows (λ h. demand_where rows (is_hungry hungry h) h) g
row_read rows hungry g d below = rw (get_or_default hungry g d false below) refl

-- The limit of a row by its entries in three lists.
pub limit_read : (used : Groups) (calm : Bool) (hungry : List Bool) (floors amounts : List ℕ) (g : ℕ)
    (d : Bool) (f a : ℕ) → g < length hungry → g < length floors → g < length amounts
    → (if is_leaf used.rows g && not calm
    then Some (leaf_limit (row_of used.rows g) (get_or hungry g d) (get_or floors g f)
    (get_or amounts g a)) else own_limit used.rows g)
    ≡ round_limit used calm hungry floors amounts g
limit_read used calm hungry floors amounts g d f a flag floor amount =
    rw (
      get_or_default hungry g d false flag,
      get_or_within floors g f floor,
      get_or_within amounts g a amount,
    ) refl

all_true : (n g : ℕ) → g < n → get_or (replicate n true) g false ≡ true
all_true zero g below = absurd (omega (arith, below))
all_true (suc n) zero below = refl
all_true (suc n) (suc g) below = all_true n g (omega (arith, below))

-- With all flags set, each leaf asks for everything.
pub all_hungry : (groups : Groups) (hungry : List Bool)
    → hungry ≡ replicate (length groups.rows) true → round_of groups hungry ≡ everyone groups
all_hungry groups hungry all =
    asking_same groups (λ g. demand_where groups.rows (is_hungry hungry g) g)
    (λ g. demand_where groups.rows true g)
    (λ g below. ap (λ flag. demand_where groups.rows flag g)
    (ap (λ flags. get_or flags g false) all ∙ all_true (length groups.rows) g below))
