-- No group uses more than its limits and a bound, and a trace tells where it keeps them.
use Rattle.dispatch.proofs.Groups.{limits_are_kept, limit_is_told, told_runs_are_limited}
use Rattle.dispatch.proofs.laws.limits_are_kept.Goals as goal

pub returns-clause-kept : goal.returns-clause-kept
returns-clause-kept c = limits_are_kept

pub returns-clause-told : goal.returns-clause-told
returns-clause-told c = limit_is_told

pub returns-clause-runs : goal.returns-clause-runs
returns-clause-runs c = told_runs_are_limited
