-- Wants and the most of each group, as far as they are gathered.
use Rattle.std.proofs.Common.{◌≡◌, ℕ, zero, suc, ◌+◌, ◌*◌, ◌<◌, ◌≤◌, List, [], ◌∷◌, Bool, true}
use Rattle.std.proofs.Common.{false, ◌||◌, eqb, true≢false, cond, Option, None, Some, length}
use Rattle.std.proofs.Common.{get_or, set, replicate, ltb, refl, ap, sym, ◌∙◌, arith, inl, inr}
use Rattle.std.specs.Prelude.{◌^◌, sum_by, slice_index, map, min, IfSome}
use Rattle.std.specs.Option.{option_map_or}
use Rattle.std.proofs.Math.Bool.{or-false}
use Rattle.std.proofs.lemmas.Bool.{cases_Bool, cases_eq, eq-eqb, ne_eqb, eqb-true, or_cases}
use Rattle.std.proofs.lemmas.Bool.{or_parts}
use Rattle.std.proofs.lemmas.List.{get_or-set_same, get_or-set_other, length-replicate, length-map}
use Rattle.std.proofs.Math.ListN.{length-set}
use Rattle.bw_model.specs.declared.row.Row.{Row}
use Rattle.bw_model.specs.declared.limits.TheConstants.{MAX_DEMAND, MAX_GROUPS}
use Rattle.bw_model.specs.Groups.{Groups, AreTreeRows, IsInstance, parent_of, is_child, children_of}
use Rattle.bw_model.specs.Groups.{is_leaf, limit_of, demand_of}
use Rattle.bw_model.specs.Demand.{want_of}
use Rattle.bw_demand.specs.Demands.{IsGathered}
use Rattle.bw_demand.specs.OneRow.{given_to, is_cut, added_above, CanGather}
use Rattle.bw_model.proofs.CallerLemmas.{sum_below-term, zeros, capped_le_want, parent_lt}
use Rattle.bw_model.proofs.CallerLemmas.{sum_by-children, is_child_no, is_child_from_parent}
use Rattle.bw_model.proofs.CallerLemmas.{no_children}
use Rattle.bw_model.proofs.CallerLemmas.{capped, capped-IsMost, sum_below, sum_below-zero}
use Rattle.bw_model.proofs.CallerLemmas.{sum_below-ap}

-- one term changed
pub sum_below-changed : (n i : ℕ) (f h : ℕ → ℕ) → i < n
    → ((k : ℕ) → k < n → (k ≡ i → ⊥) → h k ≡ f k) →
    sum_below n h + f i ≡ sum_below n f + h i
sum_below-changed zero i f h below e = absurd (omega arith)
sum_below-changed (suc n) i f h below e = elim (cases_eq n i) [
  | inl same ↦
      let front : sum_below n h ≡ sum_below n f =
      sum_below-ap n h f (λ k lt. e k (omega arith) (λ eq. omega arith)) in
      rw (← same) (omega (arith, front))
  | inr other ↦
      let front : sum_below n h + f i ≡ sum_below n f + h i =
      sum_below-changed n i f h (omega (arith, other)) (λ k lt. e k (omega arith)) in
      let last : h n ≡ f n = e n (omega arith) other in
      omega (arith, front, last)
]

pub sum_below-bound : (n : ℕ) (f : ℕ → ℕ) → ((k : ℕ) → k < n → f k ≤ MAX_DEMAND)
    → sum_below n f ≤ MAX_DEMAND * n
sum_below-bound zero f h = omega arith
sum_below-bound (suc n) f h =
    let front : sum_below n f ≤ MAX_DEMAND * n = sum_below-bound n f (λ k lt. h k (omega arith)) in
    let last : f n ≤ MAX_DEMAND = h n (omega arith) in
    omega (arith, front, last)

-- the terms of two numbers are at most the sum
pub sum_below-two : (n i j : ℕ) (f : ℕ → ℕ) → i < n → j < n → (j ≡ i → ⊥)
    → f i + f j ≤ sum_below n f
sum_below-two n i j f one two apart =
    let h : ℕ → ℕ = λ k. cond (eqb k i) 0 (f k) in
    let change : sum_below n h + f i ≡ sum_below n f + h i =
    sum_below-changed n i f h one
    (λ k _ other. ap (λ (b : Bool). cond b 0 (f k)) (ne_eqb k i other)) in
    let gone : h i ≡ 0 = ap (λ (b : Bool). cond b 0 (f i)) (eq-eqb i i refl) in
    let kept : h j ≡ f j = ap (λ (b : Bool). cond b 0 (f j)) (ne_eqb j i apart) in
    let term : h j ≤ sum_below n h = sum_below-term n j h two in
    omega (arith, change, gone, kept, term)

-- a number that is left while a group is not seen
abbrev pub left : (ℕ → Bool) → List ℕ → ℕ → ℕ
left seen want r = cond (seen r) 0 (get_or want r 0)

-- the seen groups have their mosts, and each want has those of its seen children
pub record IsGathering (groups : Groups) (seen : ℕ → Bool) (want most : List ℕ) (tight : List Bool)
    : Type 0 where
  pub wants_each : length want ≡ length groups.rows
  pub mosts_each : length most ≡ length groups.rows
  pub flags_each : length tight ≡ length groups.rows
  pub unseen : (c : ℕ) → c < length groups.rows → seen c ≡ false → get_or most c 0 ≡ 0
  pub sums : (r : ℕ) → r < length groups.rows →
      get_or want r 0 ≡ demand_of groups.rows r
      + sum_by (slice_index most) (children_of groups.rows r)
  pub cut : (c : ℕ) → c < length groups.rows → seen c ≡ true
      → get_or most c 0 ≡ capped (limit_of groups c) (get_or want c 0)
  pub flags : (c : ℕ) → c < length groups.rows → seen c ≡ true →
      get_or tight c false ≡ option_map_or (λ limit. ltb limit (get_or want c 0))
      (limit_of groups c) false
  pub small : sum_below (length groups.rows) (left seen want) ≤ MAX_DEMAND * MAX_GROUPS

-- the same groups are seen
pub same_seen : (groups : Groups) (seen next : ℕ → Bool) (want most : List ℕ) (tight : List Bool) →
    ((c : ℕ) → c < length groups.rows → next c ≡ seen c) → IsGathering groups seen want most tight
    → IsGathering groups next want most tight
same_seen groups seen next want most tight same so_far = record {
  wants_each = so_far.wants_each;
  mosts_each = so_far.mosts_each;
  flags_each = so_far.flags_each;
  unseen = λ c below e. so_far.unseen c below (sym (same c below) ∙ e);
  sums = so_far.sums;
  cut = λ c below e. so_far.cut c below (sym (same c below) ∙ e);
  flags = λ c below e. so_far.flags c below (sym (same c below) ∙ e);
  small =
      let e : sum_below (length groups.rows) (left next want)
      ≡ sum_below (length groups.rows) (left seen want) =
      sum_below-ap (length groups.rows) (left next want) (left seen want)
      (λ k below. ap (λ (b : Bool). cond b 0 (get_or want k 0)) (same k below)) in
      omega (arith, e, so_far.small);
}

demand_at : (rows : List Row) (r : ℕ)
    → get_or (map (λ (row : Row). row.demand) rows) r 0 ≡ demand_of rows r
demand_at [] r = refl
demand_at (row ∷ rows) zero = refl
demand_at (row ∷ rows) (suc r) = demand_at rows r

zero_if : (b : Bool) (x : ℕ) → x ≡ 0 → ◌≡◌ {A = ℕ} (cond b x 0) 0
zero_if true x e = e
zero_if false x e = refl

-- before the first group is seen
pub nothing_gathered : (groups : Groups) → IsInstance groups → (seen : ℕ → Bool)
    → ((c : ℕ) → c < length groups.rows → seen c ≡ false) →
    (n : ℕ) → n ≡ length groups.rows →
    (want most : List ℕ) (tight : List Bool) → want ≡ map (λ (row : Row). row.demand) groups.rows →
    most ≡ replicate n 0 → tight ≡ replicate n false → IsGathering groups seen want most tight
nothing_gathered groups valid seen nothing n en want most tight ew em et = record {
  wants_each = ap length ew ∙ length-map groups.rows (λ (row : Row). row.demand);
  mosts_each = ap length em ∙ length-replicate n 0 ∙ en;
  flags_each = ap length et ∙ length-replicate n false ∙ en;
  unseen = λ c below e. none c;
  sums = λ r below.
      let all : sum_by (slice_index most) (children_of groups.rows r) ≡ 0 =
      sum_by-children groups.rows (slice_index most) r
      ∙ sum_below-zero (length groups.rows)
      (λ c. cond (is_child groups.rows r c) (get_or most c 0) 0)
      (λ c _. zero_if (is_child groups.rows r c) (get_or most c 0) (none c)) in
      omega (arith, all, at r);
  cut = λ c below e. absurd (true≢false (sym e ∙ nothing c below));
  flags = λ c below e. absurd (true≢false (sym e ∙ nothing c below));
  small =
      let s : sum_below (length groups.rows) (left seen want) ≤ MAX_DEMAND * length groups.rows =
      sum_below-bound (length groups.rows) (left seen want) (λ k lt.
      let d : demand_of groups.rows k ≤ MAX_DEMAND = valid.demands k lt in
      let is : left seen want k ≡ get_or want k 0 =
      ap (λ (b : Bool). cond b 0 (get_or want k 0)) (nothing k lt) in
      omega (arith, d, is, at k)) in
      let f = valid.few in
      omega (arith, s, f);
}
  where
    none : (c : ℕ) → ◌≡◌ {A = ℕ} (get_or most c 0) 0
    none c = ap (λ (xs : List ℕ). get_or xs c 0) em ∙ zeros n c

    at : (r : ℕ) → get_or want r 0 ≡ demand_of groups.rows r
    at r = ap (λ (xs : List ℕ). get_or xs r 0) ew ∙ demand_at groups.rows r

-- the same rule, as the program says it
pub cut-capped : (o : Option ℕ) (want : ℕ) → option_map_or (min want) o want ≡ capped o want
cut-capped None want = refl
cut-capped (Some limit) want = refl

-- one group more, which has not been seen, nor has the group above it
module _ (groups : Groups) (tree : AreTreeRows groups.rows) (seen next : ℕ → Bool) (g : ℕ)
    (below : g < length groups.rows)
    (fresh : seen g ≡ false)
    (marks : (c : ℕ) → c < length groups.rows → next c ≡ (seen c || eqb g c))
    (above : (p : ℕ) → parent_of groups.rows g ≡ Some p → seen p ≡ false)
    (want most : List ℕ) (tight : List Bool)
    (so_far : IsGathering groups seen want most tight) (given : ℕ)
    (is_given : given ≡ capped (limit_of groups g) (get_or want g 0)) where
  given_le : given ≤ get_or want g 0
  given_le = rw is_given (capped_le_want (limit_of groups g) (get_or want g 0))

  own_left : left seen want g ≡ get_or want g 0
  own_left = ap (λ (b : Bool). cond b 0 (get_or want g 0)) fresh

  parent_before : (p : ℕ) → parent_of groups.rows g ≡ Some p → p < g
  parent_before p e = parent_lt groups.rows tree g p e

  -- the sum at the parent fits
  pub sum_fits : (p : ℕ) → parent_of groups.rows g ≡ Some p
      → get_or want p 0 + given ≤ MAX_DEMAND * MAX_GROUPS
  sum_fits p e =
      let up : p < g = parent_before p e in
      let both : left seen want g + left seen want p
      ≤ sum_below (length groups.rows) (left seen want) =
      sum_below-two (length groups.rows) g p (left seen want) below (omega (arith, up))
      (λ same. omega (arith, same, up)) in
      let its : left seen want p ≡ get_or want p 0 =
      ap (λ (b : Bool). cond b 0 (get_or want p 0)) (above p e) in
      omega (arith, both, own_left, its, so_far.small, given_le)

  children_sum : (r : ℕ) → sum_by (slice_index (set most g given)) (children_of groups.rows r)
      ≡ sum_by (slice_index most) (children_of groups.rows r)
      + cond (is_child groups.rows r g) given 0
  children_sum r =
      let f : ℕ → ℕ = λ c. cond (is_child groups.rows r c) (get_or most c 0) 0 in
      let h : ℕ → ℕ = λ c. cond (is_child groups.rows r c) (get_or (set most g given) c 0) 0 in
      let change : sum_below (length groups.rows) h + f g ≡ sum_below (length groups.rows) f + h g =
      sum_below-changed (length groups.rows) g f h below
      (λ k _ other. ap (λ (x : ℕ). cond (is_child groups.rows r k) x 0)
      (get_or-set_other most g k given 0 other)) in
      let old : f g ≡ 0 =
      zero_if (is_child groups.rows r g) (get_or most g 0) (so_far.unseen g below fresh) in
      let new : h g ≡ cond (is_child groups.rows r g) given 0 =
      ap (λ (x : ℕ). cond (is_child groups.rows r g) x 0)
      (get_or-set_same most g given 0 (omega (arith, so_far.mosts_each))) in
      rw (
        sum_by-children groups.rows (slice_index (set most g given)) r,
        sum_by-children groups.rows (slice_index most) r,
      )
      (omega (arith, change, old, new))

  now_seen : next g ≡ true
  now_seen = marks g below ∙ rw fresh (eq-eqb g g refl)

  was_seen : (c : ℕ) → c < length groups.rows → next c ≡ true → (c ≡ g → ⊥) → seen c ≡ true
  was_seen c lt e other = elim (or_cases (seen c) (eqb g c) (sym (marks c lt) ∙ e)) [
    | inl yes' ↦ yes'
    | inr same ↦ absurd (other (sym (eqb-true g c same)))
  ]

  not_seen : (c : ℕ) → c < length groups.rows → next c ≡ false → (seen c ≡ false) × (c ≡ g → ⊥)
  not_seen c lt e =
      let both : (seen c ≡ false) × (eqb g c ≡ false) =
      or_parts (seen c) (eqb g c) (sym (marks c lt) ∙ e) in
      (both.0, λ same. true≢false (sym (eq-eqb g c (sym same)) ∙ both.1))

  -- what is left by the others once g is seen
  left_next : sum_below (length groups.rows) (left next want) + get_or want g 0
      ≡ sum_below (length groups.rows) (left seen want)
  left_next =
      let change : sum_below (length groups.rows) (left next want) + left seen want g
      ≡ sum_below (length groups.rows) (left seen want) + left next want g =
      sum_below-changed (length groups.rows) g (left seen want) (left next want) below
      (λ k lt other. ap (λ (b : Bool). cond b 0 (get_or want k 0))
      (marks k lt ∙ ap (λ (b : Bool). seen k || b) (ne_eqb g k (λ e. other (sym e)))
      ∙ or-false (seen k))) in
      let gone : left next want g ≡ 0 = ap (λ (b : Bool). cond b 0 (get_or want g 0)) now_seen in
      omega (arith, change, own_left, gone)

  -- by what the wants become
  step : (after : List ℕ) (flag : Bool) → length after ≡ length groups.rows →
      ((r : ℕ) → r < length groups.rows
      → get_or after r 0 ≡ get_or want r 0 + cond (is_child groups.rows r g) given 0) →
      flag ≡ option_map_or (λ limit. ltb limit (get_or want g 0)) (limit_of groups g) false →
      sum_below (length groups.rows) (left next after) ≤ MAX_DEMAND * MAX_GROUPS →
      IsGathering groups next after (set most g given) (set tight g flag)
  step after flag long added is_flag small = record {
    wants_each = long;
    mosts_each = length-set most g given ∙ so_far.mosts_each;
    flags_each = length-set tight g flag ∙ so_far.flags_each;
    unseen = λ c lt e. let was : (seen c ≡ false) × (c ≡ g → ⊥) = not_seen c lt e in
        get_or-set_other most g c given 0 was.1 ∙ so_far.unseen c lt was.0;
    sums = λ r lt. omega (arith, added r lt, so_far.sums r lt, children_sum r);
    cut = λ c lt e. elim (cases_eq c g) [
      | inl same ↦ rw same
          (get_or-set_same most g given 0 (omega (arith, so_far.mosts_each, below)) ∙ is_given
          ∙ ap (capped (limit_of groups g)) (sym own_kept))
      | inr other ↦ get_or-set_other most g c given 0 other
          ∙ so_far.cut c lt (was_seen c lt e other)
          ∙ ap (capped (limit_of groups c)) (sym (kept c lt (was_seen c lt e other)))
    ];
    flags = λ c lt e. elim (cases_eq c g) [
      | inl same ↦ rw same
          (get_or-set_same tight g flag false (omega (arith, so_far.flags_each, below)) ∙ is_flag
          ∙ flag_ap g (sym own_kept))
      | inr other ↦ get_or-set_other tight g c flag false other
          ∙ so_far.flags c lt (was_seen c lt e other)
          ∙ flag_ap c (sym (kept c lt (was_seen c lt e other)))
    ];
    small = small;
  }
    where
      own_kept : get_or after g 0 ≡ get_or want g 0
      own_kept =
          let no' : is_child groups.rows g g ≡ false =
          is_child_no groups.rows g g (λ e. let up : g < g =
          parent_before g e in omega arith) in
          added g below ∙ rw no' (omega arith)

      kept : (c : ℕ) → c < length groups.rows → seen c ≡ true → get_or after c 0 ≡ get_or want c 0
      kept c lt yes' =
          let no' : is_child groups.rows c g ≡ false =
          is_child_no groups.rows c g (λ e. true≢false (sym yes' ∙ above c e)) in
          added c lt ∙ rw no' (omega arith)

      flag_ap : {x y : ℕ} → (c : ℕ) → x ≡ y →
          option_map_or (λ limit. ltb limit x) (limit_of groups c) false
          ≡ option_map_or (λ limit. ltb limit y) (limit_of groups c) false
      flag_ap {x} {y} c e =
          ap (λ (w : ℕ). option_map_or (λ limit. ltb limit w) (limit_of groups c) false) e

  -- a row with a parent
  pub gathered_child : (p v : ℕ) (flag : Bool) → parent_of groups.rows g ≡ Some p
      → v ≡ get_or want p 0 + given →
      flag ≡ option_map_or (λ limit. ltb limit (get_or want g 0)) (limit_of groups g) false →
      IsGathering groups next (set want p v) (set most g given) (set tight g flag)
  gathered_child p v flag e is_v is_flag =
      let up : p < g = parent_before p e in
      let inside : p < length want = omega (arith, so_far.wants_each, below) in
      let here : get_or (set want p v) p 0 ≡ v = get_or-set_same want p v 0 inside in
      step (set want p v) flag (length-set want p v ∙ so_far.wants_each)
      (λ r lt. elim (cases_eq r p) [
        | inl same ↦ rw (same, is_child_from_parent groups.rows p g e) (here ∙ is_v)
        | inr other ↦
            let no' : is_child groups.rows r g ≡ false =
            is_child_no groups.rows r g (λ f. other (same_parent r p (sym f ∙ e))) in
            rw no' (get_or-set_other want p r v 0 other ∙ omega arith)
      ])
      is_flag
      (let still : next p ≡ false = marks p (omega (arith, up, below))
      ∙ rw (above p e) (ne_eqb g p (λ same. omega (arith, same, up))) in
      let change : sum_below (length groups.rows) (left next (set want p v)) + left next want p
      ≡ sum_below (length groups.rows) (left next want) + left next (set want p v) p =
      sum_below-changed (length groups.rows) p (left next want) (left next (set want p v))
      (omega (arith, up, below))
      (λ k _ other. ap (λ (x : ℕ). cond (next k) 0 x) (get_or-set_other want p k v 0 other)) in
      let old : left next want p ≡ get_or want p 0 =
      ap (λ (b : Bool). cond b 0 (get_or want p 0)) still in
      let new : left next (set want p v) p ≡ v =
      ap (λ (b : Bool). cond b 0 (get_or (set want p v) p 0)) still ∙ here in
      omega (arith, change, old, new, is_v, left_next, so_far.small, given_le))
    where
      same_parent : (r p : ℕ) → Some r ≡ Some p → r ≡ p
      same_parent r p f = cc

  -- the root
  pub gathered_root : (flag : Bool) → parent_of groups.rows g ≡ None →
      flag ≡ option_map_or (λ limit. ltb limit (get_or want g 0)) (limit_of groups g) false →
      IsGathering groups next want (set most g given) (set tight g flag)
  gathered_root flag e is_flag =
      step want flag so_far.wants_each
      (λ r _. let no' : is_child groups.rows r g ≡ false =
      is_child_no groups.rows r g (λ f. some_none r (sym f ∙ e)) in rw no' (omega arith))
      is_flag
      (omega (arith, left_next, so_far.small))
    where
      some_none : (r : ℕ) → Some r ≡ None → ⊥
      some_none r f = cc

  -- a row, whatever stands above it
  gathered_row : (flag : Bool) → flag
      ≡ option_map_or (λ limit. ltb limit (get_or want g 0)) (limit_of groups g) false →
      IsGathering groups next (added_above (parent_of groups.rows g) want given) (set most g given)
      (set tight g flag)
  gathered_row flag is_flag =
      (elim (parent_of groups.rows g) as (λ o. parent_of groups.rows g ≡ o →
      IsGathering groups next (added_above o want given) (set most g given) (set tight g flag)) [
        | Some p ↦ λ e. gathered_child p (get_or want p 0 + given) flag e refl is_flag
        | None ↦ λ e. gathered_root flag e is_flag
      ]) refl

  -- what is added to its parent's want fits
  row_fits : IfSome (parent_of groups.rows g) (λ p. get_or want p 0 + given < 2 ^ 64)
  row_fits =
      (elim (parent_of groups.rows g) as
      (λ o. parent_of groups.rows g ≡ o → IfSome o (λ p. get_or want p 0 + given < 2 ^ 64)) [
        | Some p ↦ λ e. let fits = sum_fits p e in omega (arith, fits)
        | None ↦ λ e. tt
      ]) refl

-- the same, by what the program does to one row
module _ (groups : Groups) (tree : AreTreeRows groups.rows) (seen next : ℕ → Bool) (g : ℕ)
    (below : g < length groups.rows)
    (fresh : seen g ≡ false)
    (marks : (c : ℕ) → c < length groups.rows → next c ≡ (seen c || eqb g c))
    (above : (p : ℕ) → parent_of groups.rows g ≡ Some p → seen p ≡ false)
    (want most : List ℕ) (tight : List Bool)
    (so_far : IsGathering groups seen want most tight) where
  is_given : given_to groups want g ≡ capped (limit_of groups g) (get_or want g 0)
  is_given = cut-capped (limit_of groups g) (get_or want g 0)

  pub row_can : CanGather groups (record { want = want; most = most; tight = tight }) g
  row_can = record {
    within = below;
    wants_each = so_far.wants_each;
    mosts_each = so_far.mosts_each;
    flags_each = so_far.flags_each;
    fits = row_fits groups tree seen next g below fresh marks above want most tight so_far
        (given_to groups want g) is_given;
  }

  pub row_gathered
      : IsGathering groups next
      (added_above (parent_of groups.rows g) want (given_to groups want g))
      (set most g (given_to groups want g))
      (set tight g (is_cut groups want g))
  row_gathered =
      gathered_row groups tree seen next g below fresh marks above want most tight so_far
      (given_to groups want g) is_given (is_cut groups want g) refl

-- once all are seen
pub all_gathered : (groups : Groups) → IsInstance groups → (seen : ℕ → Bool)
    → ((c : ℕ) → c < length groups.rows → seen c ≡ true) →
    (want most : List ℕ) (tight : List Bool) → IsGathering groups seen want most tight →
    IsGathered groups (record { want = want; most = most; tight = tight })
all_gathered groups valid seen all want most tight done = record {
  wants_each = done.wants_each;
  flags_each = done.flags_each;
  mosts = record { one_each = done.mosts_each; each = capped-IsMost groups valid.tree most rule };
  wants = wants;
  flags = λ g below. done.flags g below (all g below)
      ∙ ap (λ (w : ℕ). option_map_or (λ limit. ltb limit w) (limit_of groups g) false)
      (wants g below);
}
  where
    wants : (g : ℕ) → g < length groups.rows → get_or want g 0 ≡ want_of groups most g
    wants g below = done.sums g below ∙ elim (cases_Bool (is_leaf groups.rows g)) [
      | inl leaf ↦ rw (leaf, no_children groups.rows g leaf) (omega arith)
      | inr inner ↦ let idle : demand_of groups.rows g ≡ 0 = valid.inner_idle g below inner in
          rw inner (omega (arith, idle))
    ]

    rule : (g : ℕ) → g < length groups.rows
        → get_or most g 0 ≡ capped (limit_of groups g) (want_of groups most g)
    rule g below = done.cut g below (all g below) ∙ ap (capped (limit_of groups g)) (wants g below)
