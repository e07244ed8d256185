-- The goals of `requests_are_written` that are answered by hand.
use Rattle.bw_owned.proofs.RequestLaws.{requests_are_written, shares_weigh_as_requests}
use Rattle.bw_owned.proofs.laws.requests_are_written.Goals as goal

pub returns-clause-grow : goal.returns-clause-grow
returns-clause-grow c = requests_are_written

pub returns-clause-weigh : goal.returns-clause-weigh
returns-clause-weigh c = shares_weigh_as_requests
