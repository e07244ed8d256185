-- An accepted trace is a run.
use Rattle.dispatch.proofs.TraceRuns.{trace_is_a_run}
use Rattle.dispatch.proofs.laws.trace_is_a_run.Goals as goal

pub returns : goal.returns
returns c = trace_is_a_run
