-- The goals of `times_are_allowed` that are answered by hand.
use Rattle.bw_owned.proofs.Times.{allowed_grows, parts_allow_no_more, periods_allow_quotas}
use Rattle.bw_owned.proofs.laws.times_are_allowed.Goals as goal

pub returns-clause-grow : goal.returns-clause-grow
returns-clause-grow c = allowed_grows

pub returns-clause-parts : goal.returns-clause-parts
returns-clause-parts c = parts_allow_no_more

pub returns-clause-periods : goal.returns-clause-periods
returns-clause-periods c = periods_allow_quotas
