-- The goals of `sharers` that are answered by hand.
use Rattle.std.proofs.Common.{◌≡◌, ◌≤◌, ◌*◌, ℕ, Bool, true, false, cond, ltb, List, length, ap}
use Rattle.std.proofs.Common.{◌∙◌, arith}
use mir.Val.{bool_byte}
use Rattle.bw_demand.proofs.CallerLemmas.{children_few}
use Rattle.bw_plan.proofs.by_depth.sharers.Goals as goal

times_bit : (b : Bool) (n bit : ℕ) → bit ≡ bool_byte b → n * bit ≡ cond b n 0
times_bit true n bit is = rw is (omega arith)
times_bit false n bit is = rw is (omega arith)

times_bit-le : (b : Bool) (n bit : ℕ) → bit ≡ bool_byte b → n * bit ≤ n
times_bit-le true n bit is = omega (arith, times_bit true n bit is)
times_bit-le false n bit is = omega (arith, times_bit false n bit is)

pub returns-clause-is : goal.returns-clause-is
returns-clause-is c =
    times_bit (ltb 1 (length c.children-children.result.now)) (length c.children-children.result.now)
    c.from.result c.from.ensures
    ∙ ap (λ (xs : List ℕ). cond (ltb 1 (length xs)) (length xs) 0) c.children-children.ensures

pub returns-clause-small : goal.returns-clause-small
returns-clause-small c =
    let cut = times_bit-le (ltb 1 (length c.children-children.result.now))
    (length c.children-children.result.now) c.from.result c.from.ensures in
    let listed = ap (length {A = ℕ}) c.children-children.ensures in
    let few = children_few c.args.instance.now.rows c.args.g in
    omega (arith, cut, listed, few, c.rows-rows.ensures.valid.few)
