-- There is one list of drawn amounts.
use Rattle.bw_pool.proofs.Amounts.{one_drawn_list}
use Rattle.bw_pool.proofs.laws.one_drawn_list.Goals as goal

pub returns : goal.returns
returns c = one_drawn_list
