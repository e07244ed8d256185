-- The goals of `bounds` that are answered by hand.
use Rattle.std.proofs.Common.{◌≡◌, ℕ, suc, ◌+◌, ◌-◌, ◌<◌, length, get_or, replicate, ap, subst, sym, refl}
use Rattle.std.proofs.Common.{◌∙◌, arith, rules}
use Rattle.std.proofs.lemmas.Grind.{get_or_default_zero}
use Rattle.bw_model.specs.Certificate.{certified_of}
use Rattle.bw_check.specs.Counts.{bound_over}
use Rattle.bw_check.proofs.Bounding.{AreMadeFrom, none_made, none_small, made_top, made_child}
use Rattle.bw_check.proofs.Bounding.{small_top, sum_small, small_child, all_made}
use Rattle.bw_check.proofs.tables.bounds.Goals as goal
use Rattle.bw_check.proofs.tables.bounds.Goals.{After-bound_of-bound, After-index-sum}

pub loop-g-init : goal.loop-g-init
loop-g-init c =
    let rows = c.args.instance.now.rows in
    let count : c.group_count-count.result ≡ length rows = c.group_count-count.ensures.count in
    let below_are : c.in_ok-below.below.items ≡ replicate c.group_count-count.result 0 =
    search rules in
    let bounds_are : c.in_ok-bounds.bounds.items ≡ replicate c.group_count-count.result 0 =
    search rules in
    let below_all = below_are ∙ ap (λ (n : ℕ). replicate n 0) count in
    let bounds_all = bounds_are ∙ ap (λ (n : ℕ). replicate n 0) count in
    rw count (record {
      made = none_made c.args.instance.now (certified_of c.args.certificate.now)
          c.group_count-count.ensures.valid.tree
          c.in_ok-below.below.items c.in_ok-bounds.bounds.items below_all bounds_all;
      small = none_small c.args.instance.now (certified_of c.args.certificate.now)
          c.group_count-count.ensures.valid.tree c.in_ok-below.below.items below_all;
      visited = refl;
    })

within_of : (c : After-bound_of-bound) → c.loop-g.g - 1 < length c.args.instance.now.rows
within_of c =
    omega (arith, c.loop-g-test.true, c.loop-g.auto.g, c.group_count-count.ensures.count)

-- what the children add up to
here_of : (c : After-bound_of-bound) → c.loop-g.g - 1 < length c.args.instance.now.rows
    → c.index.result.now ≡ get_or c.loop-g.below.items (c.loop-g.g - 1) 0
here_of c within =
    c.index.ensures
    ∙ get_or_default_zero c.loop-g.below.items (c.loop-g.g - 1) c.index.result.now
    (omega (arith, within, c.loop-g.invariant.made.summed.one_each))

-- what the parent's children add up to so far
read_of : (c : After-index-sum) → c.loop-g.g - 1 < length c.args.instance.now.rows
    → c.in-Some.parent < c.loop-g.g - 1
    → c.index-sum.result.now ≡ get_or c.loop-g.below.items c.in-Some.parent 0
read_of c within before =
    c.index-sum.ensures
    ∙ get_or_default_zero c.loop-g.below.items c.in-Some.parent c.index-sum.result.now
    (omega (arith, within, c.loop-g.invariant.made.summed.one_each, before))

value_of : (c : After-bound_of-bound)
    → c.index.result.now ≡ get_or c.loop-g.below.items (c.loop-g.g - 1) 0
    → c.bound_of-bound.result
    ≡ bound_over c.args.instance.now (certified_of c.args.certificate.now)
    (get_or c.loop-g.below.items (c.loop-g.g - 1) 0) (c.loop-g.g - 1)
value_of c here =
    c.bound_of-bound.ensures.value
    ∙ ap (λ (x : ℕ). bound_over c.args.instance.now (certified_of c.args.certificate.now) x
    (c.loop-g.g - 1)) here

pub overflow_add-sum : goal.overflow_add-sum
overflow_add-sum c =
    let below = c.loop-g.below.items in
    let next : c.loop-g.g ≡ suc (c.loop-g.g - 1) = omega (arith, c.loop-g-test.true) in
    let within = within_of (goal.at.overflow_add-sum c).After-bound_of-bound in
    let here = here_of (goal.at.overflow_add-sum c).After-bound_of-bound within in
    let before : c.in-Some.parent < c.loop-g.g - 1 = c.in-Some.ensures.before in
    let read = read_of (goal.at.overflow_add-sum c).After-index-sum within before in
    let fits = sum_small c.args.instance.now c.loop-g.g (c.loop-g.g - 1) c.bound_of-bound.result
    below next c.loop-g.invariant.small
    (omega (arith, c.bound_of-bound.ensures.small, here)) c.in-Some.parent before in
    omega (arith, fits, read, c.group_count-count.ensures.valid.few)

pub loop-g-preserved-in-Some : goal.loop-g-preserved-in-Some
loop-g-preserved-in-Some c =
    let below = c.loop-g.below.items in
    let next : c.loop-g.g ≡ suc (c.loop-g.g - 1) = omega (arith, c.loop-g-test.true) in
    let within = within_of (goal.at.loop-g-preserved-in-Some c).After-bound_of-bound in
    let here = here_of (goal.at.loop-g-preserved-in-Some c).After-bound_of-bound within in
    let before : c.in-Some.parent < c.loop-g.g - 1 = c.in-Some.ensures.before in
    let read = read_of (goal.at.loop-g-preserved-in-Some c).After-index-sum within before in
    let value = value_of (goal.at.loop-g-preserved-in-Some c).After-bound_of-bound here in
    let sum = c.index-sum.result.now + c.bound_of-bound.result in
    let sum_is : c.index-sum.result.now + c.bound_of-bound.result
    ≡ get_or below c.in-Some.parent 0 + c.bound_of-bound.result =
    ap (λ (x : ℕ). x + c.bound_of-bound.result) read in
    record {
      made = made_child c.args.instance.now (certified_of c.args.certificate.now)
          c.group_count-count.ensures.valid.tree
          c.loop-g.g (c.loop-g.g - 1) c.bound_of-bound.result below c.loop-g.bounds.items next
          within c.loop-g.invariant.made value
          c.in-Some.parent sum (sym c.parent.ensures.value ∙ c.in-Some.is) sum_is;
      small = small_child c.args.instance.now c.loop-g.g (c.loop-g.g - 1) c.bound_of-bound.result
          below next c.loop-g.invariant.small
          (omega (arith, c.bound_of-bound.ensures.small, here)) c.in-Some.parent sum before
          (omega (arith, within, c.loop-g.invariant.made.summed.one_each, before)) sum_is;
      visited = omega (arith, c.one_more.ensures, c.loop-g.invariant.visited, c.loop-g-test.true);
    }

pub loop-g-preserved : goal.loop-g-preserved
loop-g-preserved c =
    let below = c.loop-g.below.items in
    let next : c.loop-g.g ≡ suc (c.loop-g.g - 1) = omega (arith, c.loop-g-test.true) in
    let within = within_of (goal.at.loop-g-preserved c).After-bound_of-bound in
    let here = here_of (goal.at.loop-g-preserved c).After-bound_of-bound within in
    let value = value_of (goal.at.loop-g-preserved c).After-bound_of-bound here in
    record {
      made = made_top c.args.instance.now (certified_of c.args.certificate.now)
          c.group_count-count.ensures.valid.tree
          c.loop-g.g (c.loop-g.g - 1) c.bound_of-bound.result below c.loop-g.bounds.items next
          within c.loop-g.invariant.made value
          (sym c.parent.ensures.value ∙ c.in_default.is);
      small = small_top c.args.instance.now c.loop-g.g (c.loop-g.g - 1) c.bound_of-bound.result
          below next c.loop-g.invariant.small
          (omega (arith, c.bound_of-bound.ensures.small, here));
      visited = omega (arith, c.one_more.ensures, c.loop-g.invariant.visited, c.loop-g-test.true);
    }

pub returns-clause-bounds : goal.returns-clause-bounds
returns-clause-bounds c =
    let done : c.loop-g.g ≡ 0 = omega (arith, c.loop-g-test.false) in
    all_made c.args.instance.now (certified_of c.args.certificate.now)
    c.group_count-count.ensures.valid.tree c.loop-g.below.items c.loop-g.bounds.items
    (subst (λ (g : ℕ). AreMadeFrom c.args.instance.now
    (certified_of c.args.certificate.now) g c.loop-g.below.items c.loop-g.bounds.items) done
    c.loop-g.invariant.made)
