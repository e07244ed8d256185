-- The goals of `first_of_two` that are answered by hand.
use Rattle.std.proofs.Common.{◌≡◌, ◌+◌, ◌*◌, ◌/◌, get_or, refl, arith}
use Rattle.bw_split.proofs.TwoChildren.{first-IsBestSplit}
use Rattle.bw_split.proofs.pair.first_of_two.Goals as goal

pub returns-clause-best : goal.returns-clause-best
returns-clause-best c =
    let v = c.requires.can.weights_in_range 0 (omega (arith, c.requires.two)) in
    let w = c.requires.can.weights_in_range 1 (omega (arith, c.requires.two)) in
    let share_is : (2 * c.args.amount * c.from-weight.result
    + (c.from-weight.result + c.from.result)) / (2 * (c.from-weight.result + c.from.result))
    ≡ (2 * c.args.amount * get_or c.args.weights.now 0 0
    + (get_or c.args.weights.now 0 0 + get_or c.args.weights.now 1 0))
    / (2 * (get_or c.args.weights.now 0 0 + get_or c.args.weights.now 1 0)) =
    rw (c.from-weight.ensures, c.from.ensures) refl in
    (first-IsBestSplit c.args.amount c.args.weights.now c.args.most.now
    ((2 * c.args.amount * c.from-weight.result + (c.from-weight.result + c.from.result))
    / (2 * (c.from-weight.result + c.from.result)))
    c.min.result c.requires.two c.requires.can.one_each v.0 w.0 c.requires.can.enough share_is
    (omega (
      arith,
      c.min.ensures,
      c.max.ensures,
      c.saturating_sub-left.ensures,
      c.from-2.ensures,
      c.from-3.ensures,
    ))).1
