-- What a group draws over many periods is bounded by its quota and its burst.
use Rattle.std.proofs.Common.{◌≡◌, ◌≢◌, ◌⊎◌, inl, inr, ℕ, suc, ◌+◌, ◌*◌, ◌-◌, ◌/◌, ◌≤◌, min, Bool}
use Rattle.std.proofs.Common.{true, false, cond, List, [], ◌∷◌, ◌++◌, length, map, Option}
use Rattle.std.proofs.Common.{Some, None, refl, sym, ap, subst, ◌∙◌, arith, eqb, position}
use Rattle.std.specs.Prelude.{IfSome}
use Rattle.std.proofs.lemmas.Bool.{ne_eqb}
use Rattle.std.proofs.lemmas.Bool.Decides.{eqb_tells}
use Rattle.std.proofs.Math.Nat.{zero-div}
use Rattle.std.specs.Map.{values_of, set_value}
use Rattle.bw_model.specs.declared.row.Row.{Row}
use Rattle.bw_model.specs.Host.{Shape}
use Rattle.bw_model.specs.Quota.{in_slices}
use Rattle.bw_tree.specs.Groups.{GroupFields, TreeState, group_at}
use Rattle.bw_tree.specs.Tree.{changed, with_setting, with_group, set_demand, set_weight, set_quota}
use Rattle.bw_tree.specs.Tree.{set_period, set_burst, set_carry, new_group}
use Rattle.bw_tree.specs.Snapshot.{quota_slices, with_burst, bursting, period_limit, row_above}
use Rattle.bw_tree.specs.Snapshot.{row_of, rows_of, base_of, instance_of, left_of, left_over}
use Rattle.bw_tree.specs.Snapshot.{carried, carried_over, IsDrawnWithin}
use Rattle.bw_tree.specs.Bandwidth.{Call, after_call, CanBook, burst_slices, HasBandwidth}
use Rattle.bw_tree.specs.Bandwidth.{KeepsBandwidth, drawn_at, drawn_in, periods_in, carry_of}
use Rattle.bw_tree.specs.Bandwidth.{carry_at}
use Rattle.bw_tree.specs.Bandwidth.{with_left, HasNoBurst}
use Rattle.bw_tree.specs.Bandwidth.Call.{Book, Mkdir, Rmdir, SetDemand, SetWeight, SetLimit}
use Rattle.bw_tree.specs.Bandwidth.Call.{SetPeriod, SetBurst}
use Rattle.bw_tree.proofs.CarryLemmas.{keys_carried}
use Rattle.bw_tree.proofs.RemoveLemmas.{look_removed_other}
use Rattle.bw_tree.proofs.SetLemmas.{look_set_other, look_set_same}
use Rattle.bw_model.proofs.CallerLemmas.{inside}

-- ---- one booked period

-- each group keeps what is left of its limit
pub left_at : (s : Shape) (all gs : List (ℕ × GroupFields)) (ds : List ℕ) (id : ℕ)
    → length ds ≡ length gs
    → group_at (carried gs (left_over (map (row_of all s) (values_of gs)) ds)) id
    ≡ with_left s (drawn_at gs ds id) (group_at gs id)
left_at s all [] ds id same = refl
left_at s all (e ∷ es) [] id same = absurd (omega (arith, same))
left_at s all (e ∷ es) (d ∷ ds) id same =
    onto (eqb id e.0) (left_at s all es ds id (omega (arith, same)))
  where
    onto : (b : Bool) → group_at (carried es (left_over (map (row_of all s) (values_of es)) ds)) id
        ≡ with_left s (drawn_at es ds id) (group_at es id)
        → cond b (Some (set_carry (left_of (period_limit s e.1) d) e.1))
        (group_at (carried es (left_over (map (row_of all s) (values_of es)) ds)) id)
        ≡ with_left s (cond b d (drawn_at es ds id)) (cond b (Some e.1) (group_at es id))
    onto true rest = refl
    onto false rest = rest

-- a group has drawn no more than its limit
within_at : (s : Shape) (all gs : List (ℕ × GroupFields)) (ds : List ℕ) (id : ℕ) (g : GroupFields)
    → length ds ≡ length gs
    → IsDrawnWithin (map (row_of all s) (values_of gs)) ds → group_at gs id ≡ Some g
    → IfSome (period_limit s g) (λ limit. drawn_at gs ds id ≤ limit)
within_at s all [] ds id g same within found = cc
within_at s all (e ∷ es) [] id g same within found = absurd (omega (arith, same))
within_at s all (e ∷ es) (d ∷ ds) id g same within found =
    onto (eqb id e.0) found (within 0 (omega arith))
    (within_at s all es ds id g (omega (arith, same))
    (λ k lt. within (suc k) (omega (arith, lt))))
  where
    onto : (b : Bool) → cond b (Some e.1) (group_at es id) ≡ Some g
        → IfSome (period_limit s e.1) (λ limit. d ≤ limit)
        → (group_at es id ≡ Some g → IfSome (period_limit s g) (λ limit. drawn_at es ds id ≤ limit))
        → IfSome (period_limit s g) (λ limit. cond b d (drawn_at es ds id) ≤ limit)
    onto true found here rest =
        subst (λ x. IfSome (period_limit s x) (λ limit. d ≤ limit)) (inside found) here
    onto false found here rest = rest found

-- what a group drew and what it left over are its limit
booked_step : (s : Shape) (id q b : ℕ) (t : TreeState) (drawn : List ℕ) → HasBandwidth s t id q b
    → CanBook s t drawn
    → drawn_at t.groups drawn id + carry_at (after_call s t (Book drawn)) id
    ≡ q + min (carry_at t id) b
booked_step s id q b t drawn has can =
    let limit : period_limit s has.group ≡ Some (with_burst has.group.carry b q) =
    ap (bursting has.group.carry (burst_slices s has.group)) has.has_quota
    ∙ ap (λ n. Some (with_burst has.group.carry n q)) has.has_burst in
    let most : drawn_at t.groups drawn id ≤ with_burst has.group.carry b q =
    subst (λ o. IfSome o (λ l. drawn_at t.groups drawn id ≤ l)) limit
    (within_at s t.groups t.groups drawn id has.group can.count can.within has.found) in
    let left : carry_at (after_call s t (Book drawn)) id
    ≡ with_burst has.group.carry b q - drawn_at t.groups drawn id =
    ap carry_of (left_at s t.groups t.groups drawn id can.count)
    ∙ ap (λ o. carry_of (with_left s (drawn_at t.groups drawn id) o)) has.found
    ∙ ap (λ o. left_of o (drawn_at t.groups drawn id)) limit in
    let was : carry_at t id ≡ has.group.carry = ap carry_of has.found in
    omega (arith, most, left, was)

pub carry_bound : (s : Shape) (id q b : ℕ) (t : TreeState) (drawn : List ℕ)
    → HasBandwidth s t id q b → CanBook s t drawn
    → carry_at (after_call s t (Book drawn)) id ≤ q + b
carry_bound s id q b t drawn has can = omega (arith, booked_step s id q b t drawn has can)

-- ---- any calls

-- a new group leaves what the others have left over
made_carry : (gs : List (ℕ × GroupFields)) (k id : ℕ) (g : GroupFields) → g.carry ≡ 0
    → carry_of (group_at (gs ++ (k, g) ∷ []) id) ≡ carry_of (group_at gs id)
made_carry [] k id g none = by (eqb id k)
  where
    by : (b : Bool) → carry_of (cond b (Some g) None) ≡ 0
    by true = none
    by false = refl
made_carry (e ∷ es) k id g none = onto (eqb id e.0) (made_carry es k id g none)
  where
    onto : (b : Bool) → carry_of (group_at (es ++ (k, g) ∷ []) id) ≡ carry_of (group_at es id)
        → carry_of (cond b (Some e.1) (group_at (es ++ (k, g) ∷ []) id))
        ≡ carry_of (cond b (Some e.1) (group_at es id))
    onto true rest = refl
    onto false rest = rest

-- a setting leaves what each group has left over
set_carries : (f : GroupFields → GroupFields) (t : TreeState) (other id : ℕ)
    → ((g : GroupFields) → (f g).carry ≡ g.carry)
    → carry_at (with_setting f t other) id ≡ carry_at t id
set_carries f t other id same = by (group_at t.groups other) refl
  where
    at_both : (g : GroupFields) → group_at t.groups other ≡ Some g
        → ((eqb id other ≡ true) × (id ≡ other)) ⊎ ((eqb id other ≡ false) × (id ≢ other))
        → carry_of (group_at (set_value (eqb other) t.groups (f g)) id)
        ≡ carry_of (group_at t.groups id)
    at_both g at (inl here) =
        ap (λ k. carry_of (group_at (set_value (eqb other) t.groups (f g)) k)) here.1
        ∙ ap carry_of (look_set_same other (f g) t.groups g at) ∙ same g
        ∙ sym (ap (λ k. carry_of (group_at t.groups k)) here.1 ∙ ap carry_of at)
    at_both g at (inr apart) = ap carry_of (look_set_other other (f g) t.groups id apart.0)

    by : (o : Option GroupFields) → group_at t.groups other ≡ o
        → carry_of (group_at (changed f t.groups other o) id) ≡ carry_of (group_at t.groups id)
    by None at = refl
    by (Some g) at = at_both g at (eqb_tells id other)

pub drawn_bound : (s : Shape) (id q b : ℕ) (t : TreeState) (calls : List Call)
    → KeepsBandwidth s id q b t calls
    → drawn_in s id t calls ≤ q * periods_in calls + min (carry_at t id) b
drawn_bound s id q b t [] keeps = omega arith
drawn_bound s id q b t (Book drawn ∷ calls) keeps =
    let step = booked_step s id q b t drawn keeps.0 keeps.1 in
    let rest = drawn_bound s id q b (after_call s t (Book drawn)) calls keeps.2 in
    let one_more : q * suc (periods_in calls) ≡ q * periods_in calls + q = omega arith in
    omega (arith, step, rest, one_more)
drawn_bound s id q b t (Mkdir parent name ∷ calls) keeps =
    omega (
      arith,
      made_carry t.groups t.next id (new_group parent name) refl,
      drawn_bound s id q b (with_group t parent name) calls keeps.2,
    )
drawn_bound s id q b t (Rmdir gone ∷ calls) keeps =
    let same = ap carry_of
    (look_removed_other gone t.groups id (ne_eqb id gone (λ e. keeps.1 (sym e)))) in
    omega (arith, same, drawn_bound s id q b (after_call s t (Rmdir gone)) calls keeps.2)
drawn_bound s id q b t (SetDemand other demand ∷ calls) keeps =
    omega (
      arith,
      set_carries (set_demand demand) t other id (λ g. refl),
      drawn_bound s id q b (after_call s t (SetDemand other demand)) calls keeps.2,
    )
drawn_bound s id q b t (SetWeight other weight ∷ calls) keeps =
    omega (
      arith,
      set_carries (set_weight weight) t other id (λ g. refl),
      drawn_bound s id q b (after_call s t (SetWeight other weight)) calls keeps.2,
    )
drawn_bound s id q b t (SetLimit other quota ∷ calls) keeps =
    omega (
      arith,
      set_carries (set_quota quota) t other id (λ g. refl),
      drawn_bound s id q b (after_call s t (SetLimit other quota)) calls keeps.2,
    )
drawn_bound s id q b t (SetPeriod other period ∷ calls) keeps =
    omega (
      arith,
      set_carries (set_period period) t other id (λ g. refl),
      drawn_bound s id q b (after_call s t (SetPeriod other period)) calls keeps.2,
    )
drawn_bound s id q b t (SetBurst other burst ∷ calls) keeps =
    omega (
      arith,
      set_carries (set_burst burst) t other id (λ g. refl),
      drawn_bound s id q b (after_call s t (SetBurst other burst)) calls keeps.2,
    )

-- ---- no burst

none_slices : (s : Shape) (period : ℕ) → in_slices s period 0 ≡ 0
none_slices s period =
    let none : 0 * s.period_us ≡ 0 = omega arith in
    ap (λ n. n / (period * s.slice_us)) none ∙ zero-div (period * s.slice_us)

-- without a burst the limit is the quota, whatever is left over
pub no_burst : (s : Shape) (carry : ℕ) (g : GroupFields) → g.burst ≡ 0
    → period_limit s (set_carry carry g) ≡ quota_slices s g
no_burst s carry g none =
    ap (λ b. bursting carry (in_slices s g.period b) (quota_slices s g)) none
    ∙ ap (λ b. bursting carry b (quota_slices s g)) (none_slices s g.period)
    ∙ by (quota_slices s g)
  where
    by : (o : Option ℕ) → bursting carry 0 o ≡ o
    by None = refl
    by (Some q) = let e : with_burst carry 0 q ≡ q = omega arith in ap Some e

limits_from : (s : Shape) (all gs : List (ℕ × GroupFields)) → HasNoBurst gs
    → map (λ (r : Row). r.limit) (map (row_of all s) (values_of gs)) ≡ base_of gs s
limits_from s all [] none = refl
limits_from s all (e ∷ es) none =
    ap (λ o. o ∷ map (λ (r : Row). r.limit) (map (row_of all s) (values_of es)))
    (no_burst s e.1.carry e.1 none.0)
    ∙ ap (λ (xs : List (Option ℕ)). quota_slices s e.1 ∷ xs) (limits_from s all es none.1)

pub limits_are_quotas : (s : Shape) (t : TreeState) → HasNoBurst t.groups
    → map (λ (r : Row). r.limit) (rows_of t.groups s) ≡ base_of t.groups s
limits_are_quotas s t none = limits_from s t.groups t.groups none

place_same : (gs : List (ℕ × GroupFields)) (cs : List ℕ) (o : Option ℕ)
    → row_above (carried gs cs) o ≡ row_above gs o
place_same gs cs None = refl
place_same gs cs (Some id) = ap (position (eqb id)) (keys_carried gs cs)

rows_from : (s : Shape) (old new gs : List (ℕ × GroupFields)) (cs : List ℕ)
    → ((o : Option ℕ) → row_above new o ≡ row_above old o) → HasNoBurst gs
    → map (row_of new s) (values_of (carried gs cs)) ≡ map (row_of old s) (values_of gs)
rows_from s old new [] [] same none = refl
rows_from s old new [] (c ∷ cs) same none = refl
rows_from s old new (e ∷ es) [] same none =
    ap (λ p. record {
      parent = p;
      weight = e.1.weight;
      limit = period_limit s e.1;
      demand = e.1.demand;
    } ∷ map (row_of new s) (values_of es)) (same e.1.parent)
    ∙ ap (λ (rows : List Row). row_of old s e.1 ∷ rows) (rows_from s old new es [] same none.1)
rows_from s old new (e ∷ es) (c ∷ cs) same none =
    ap (λ p. record {
      parent = p;
      weight = e.1.weight;
      limit = period_limit s (set_carry c e.1);
      demand = e.1.demand;
    }
    ∷ map (row_of new s) (values_of (carried es cs))) (same e.1.parent)
    ∙ ap (λ o. record {
      parent = row_above old e.1.parent;
      weight = e.1.weight;
      limit = o;
      demand = e.1.demand;
    }
    ∷ map (row_of new s) (values_of (carried es cs)))
    (no_burst s c e.1 none.0 ∙ sym (no_burst s e.1.carry e.1 none.0))
    ∙ ap (λ (rows : List Row). row_of old s e.1 ∷ rows) (rows_from s old new es cs same none.1)

pub carries_unseen : (s : Shape) (t : TreeState) (rows : List Row) (drawn : List ℕ)
    → HasNoBurst t.groups
    → instance_of (carried_over t rows drawn) s ≡ instance_of t s
carries_unseen s t rows drawn none =
    ap (λ (xs : List Row). record { shape = s; rows = xs })
    (rows_from s t.groups (carried t.groups (left_over rows drawn)) t.groups (left_over rows drawn)
    (place_same t.groups (left_over rows drawn)) none)

none_carried : (gs : List (ℕ × GroupFields)) (cs : List ℕ) → HasNoBurst gs
    → HasNoBurst (carried gs cs)
none_carried gs [] none = none
none_carried [] (c ∷ cs) none = tt
none_carried (e ∷ es) (c ∷ cs) none = (none.0, none_carried es cs none.1)

pub no_burst_stays : (t : TreeState) (rows : List Row) (drawn : List ℕ) → HasNoBurst t.groups
    → HasNoBurst (carried_over t rows drawn).groups
no_burst_stays t rows drawn none = none_carried t.groups (left_over rows drawn) none
