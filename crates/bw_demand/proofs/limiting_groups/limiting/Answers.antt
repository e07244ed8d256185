-- The goals of `limiting` that are answered by hand.
use Rattle.std.proofs.Common.{◌≡◌, ◌<◌, ◌≤◌, ◌+◌, ◌*◌, ℕ, Bool, false, [], ◌∷◌, ◌++◌, cond}
use Rattle.std.proofs.Common.{append-nil, Vec, ◌&&◌, ◌||◌, not, Some, length, refl, ap, sym, ◌∙◌}
use Rattle.std.proofs.Common.{arith, rules}
use Rattle.std.specs.declared.alloc.Global.{Global}
use Rattle.std.proofs.lemmas.List.{get_or_default}
use Rattle.bw_model.specs.declared.row.Row.{Row}
use Rattle.bw_model.specs.declared.limits.TheConstants.{MAX_DEMAND, MAX_GROUPS}
use Rattle.bw_model.specs.Groups.{parent_of, is_leaf, demand_of}
use Rattle.bw_model.specs.Demand.{is_tight, has_tight_above}
use Rattle.bw_model.proofs.CallerLemmas.{parent_lt}
use Rattle.bw_demand.specs.Demands.{demands_of}
use Rattle.bw_demand.proofs.LimitingListed.{nothing_listed, above_by_parent, listed_more}
use Rattle.bw_demand.proofs.LimitingListed.{rest_small, all_listed, outside_alone}
use Rattle.bw_demand.proofs.limiting_groups.limiting.Goals as goal
use Rattle.bw_demand.proofs.limiting_groups.limiting.Goals.{then-is_limiting+in_ok-push}
use Rattle.bw_demand.proofs.limiting_groups.limiting.Goals.{else-is_limiting}

pub loop-g-init : goal.loop-g-init
loop-g-init c =
    nothing_listed c.args.instance.now c.rows-rows.ensures.valid (demands_of c.args.gathered.now)
    c.requires.gathered
    (length c.rows-rows.result.now) (ap (length {A = Row}) c.rows-rows.ensures.rows)
    c.in_ok-covered.covered.items (search rules) _ (search rules)

pub is_parent_covered-above-requires-clause-parent
    : goal.is_parent_covered-above-requires-clause-parent
is_parent_covered-above-requires-clause-parent c = λ p e.
    let e' : parent_of c.args.instance.now.rows c.loop-g.g ≡ Some p =
    rw c.rows-rows.ensures.rows at e in
    let long : length c.rows-rows.result.now ≡ length c.args.instance.now.rows =
    ap (length {A = Row}) c.rows-rows.ensures.rows in
    let up : p < c.loop-g.g =
    parent_lt c.args.instance.now.rows c.rows-rows.ensures.valid.tree c.loop-g.g p e' in
    omega (
      arith,
      up,
      long,
      c.loop-g-test.true,
      c.loop-g.invariant.one_each,
      ap (length {A = Bool}) c.as_slice.ensures.value,
    )

pub overflow_add-rest : goal.overflow_add-rest
overflow_add-rest c =
    let long : length c.rows-rows.result.now ≡ length c.args.instance.now.rows =
    ap (length {A = Row}) c.rows-rows.ensures.rows in
    let below : c.loop-g.g < length c.args.instance.now.rows =
    omega (arith, c.loop-g-test.true, long) in
    let so_far : c.loop-g.rest ≤ MAX_DEMAND * MAX_GROUPS =
    rest_small c.args.instance.now c.rows-rows.ensures.valid (demands_of c.args.gathered.now)
    c.requires.gathered
    c.loop-g.g c.loop-g.covered.items c.loop-g.groups.items c.loop-g.rest below
    c.loop-g.invariant in
    let more : demand_of c.rows-rows.result.now c.loop-g.g ≤ MAX_DEMAND =
    rw c.rows-rows.ensures.rows (c.rows-rows.ensures.valid.demands c.loop-g.g below) in
    omega (arith, so_far, more, c.demand_if_outside-rest.ensures.bound)

pub loop-g-preserved : goal.loop-g-preserved
loop-g-preserved c =
    let long : length c.rows-rows.result.now ≡ length c.args.instance.now.rows =
    ap (length {A = Row}) c.rows-rows.ensures.rows in
    let below : c.loop-g.g < length c.args.instance.now.rows =
    omega (arith, c.loop-g-test.true, long) in
    let tight : c.index-tight.result.now
    ≡ is_tight c.args.instance.now c.args.gathered.now.most.items c.loop-g.g =
    c.index-tight.ensures
    ∙ get_or_default c.args.gathered.now.tight.items c.loop-g.g c.index-tight.result.now false
    (omega (arith, below, c.requires.gathered.flags_each))
    ∙ c.requires.gathered.flags c.loop-g.g below in
    let above : c.is_parent_covered-above.result
    ≡ has_tight_above c.args.instance.now c.args.gathered.now.most.items c.loop-g.g =
    above_by_parent c.args.instance.now c.rows-rows.ensures.valid (demands_of c.args.gathered.now)
    c.requires.gathered
    c.loop-g.g c.loop-g.covered.items c.loop-g.groups.items c.loop-g.rest c.loop-g.invariant
    c.is_parent_covered-above.result
    (c.is_parent_covered-above.ensures
    ∙ rw (c.as_slice.ensures.value, c.rows-rows.ensures.rows) refl) in
    let here : c.is_covered-here.result
    ≡ (is_tight c.args.instance.now c.args.gathered.now.most.items c.loop-g.g
    || has_tight_above c.args.instance.now c.args.gathered.now.most.items c.loop-g.g) =
    c.is_covered-here.ensures ∙ rw (tight, above) refl in
    let more : c.demand_if_outside-rest.result
    ≡ cond (is_leaf c.args.instance.now.rows c.loop-g.g
    && not (is_tight c.args.instance.now c.args.gathered.now.most.items c.loop-g.g
    || has_tight_above c.args.instance.now c.args.gathered.now.most.items c.loop-g.g))
    (demand_of c.args.instance.now.rows c.loop-g.g) 0 =
    c.demand_if_outside-rest.ensures.value ∙ rw (here, c.rows-rows.ensures.rows)
    (outside_alone (is_leaf c.args.instance.now.rows c.loop-g.g) _ _
    (c.rows-rows.ensures.valid.inner_idle c.loop-g.g below)) in
    let limits : c.is_limiting.result
    ≡ (is_tight c.args.instance.now c.args.gathered.now.most.items c.loop-g.g
    && not (has_tight_above c.args.instance.now c.args.gathered.now.most.items c.loop-g.g)) =
    c.is_limiting.ensures ∙ rw (tight, above) refl in
    let list : c.if-is_limiting.groups.items ≡ c.loop-g.groups.items
    ++ cond c.is_limiting.result (c.loop-g.g ∷ []) [] =
    elim c.if-is_limiting.branch [
      | then-is_limiting+in_ok-push w ↦ ap (λ (v : Vec ℕ Global). v.items) w.groups-is
          ∙ w.in_ok-push.ensures.items ∙ rw w.if-is_limiting.true refl
      | else-is_limiting w ↦ ap (λ (v : Vec ℕ Global). v.items) w.groups-is
          ∙ rw w.if-is_limiting.false (sym (append-nil c.loop-g.groups.items))
    ] in
    listed_more c.args.instance.now c.rows-rows.ensures.valid (demands_of c.args.gathered.now)
    c.requires.gathered
    c.loop-g.g (c.loop-g.g + 1) c.loop-g.covered.items c.loop-g.groups.items c.loop-g.rest
    (omega arith) below c.loop-g.invariant
    c.is_covered-here.result c.if-is_limiting.groups.items
    (c.loop-g.rest + c.demand_if_outside-rest.result) here
    (list ∙ ap (λ (b : Bool). c.loop-g.groups.items ++ cond b (c.loop-g.g ∷ []) []) limits)
    (omega (arith, more))

pub returns : goal.returns
returns c =
    let long : length c.rows-rows.result.now ≡ length c.args.instance.now.rows =
    ap (length {A = Row}) c.rows-rows.ensures.rows in
    let all = all_listed c.args.instance.now c.rows-rows.ensures.valid
    (demands_of c.args.gathered.now) c.requires.gathered
    c.loop-g.g c.loop-g.covered.items c.loop-g.groups.items c.loop-g.rest (omega (arith, long))
    c.loop-g.invariant in
    record { groups = all.0; rest = all.1; greatest = all.2 }
