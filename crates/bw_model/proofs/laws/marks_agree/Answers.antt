-- The goals of `marks_agree` that are answered by hand.
use Rattle.bw_model.proofs.split.Order.{is_lt-IsBelow, is_le-IsAtMost}
use Rattle.bw_model.proofs.laws.marks_agree.Goals as goal

pub returns : goal.returns
returns c = record { below = is_lt-IsBelow; at_most = is_le-IsAtMost }
