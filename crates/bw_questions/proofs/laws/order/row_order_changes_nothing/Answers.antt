-- The goal of `row_order_changes_nothing`, answered by its lemma.
use Rattle.bw_questions.proofs.changes.OrderLaw.{order_changes_no_amount}
use Rattle.bw_questions.proofs.laws.order.row_order_changes_nothing.Goals as goal

pub returns : goal.returns
returns c = order_changes_no_amount
