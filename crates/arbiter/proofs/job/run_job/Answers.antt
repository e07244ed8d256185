-- The goals of `run_job` that are answered by hand.
use Rattle.std.proofs.Common.{refl}
use Rattle.arbiter.specs.Ended.{host_named}
use Rattle.arbiter.proofs.JobEnds.{on_host, on_none}
use Rattle.arbiter.proofs.job.run_job.Goals as goal

pub returns-in-Ok : goal.returns-in-Ok
returns-in-Ok g c = on_host g.R.Read.remaining g.W.Write.contents c.args.reader.now
    c.run-ran.new.reader c.args.writer.now c.run-ran.new.writer c.run_ended.result c.in-Ok.shape
    (host_named c.args.processors c.args.period_us c.args.slice_us) c.in-Ok.ensures.ok
    c.in-Ok.ensures.valid c.run-ran.result c.explained.result c.run-ran.ensures c.explained.ensures
    c.run_ended.ensures

pub returns-in-Err : goal.returns-in-Err
returns-in-Err g c = on_none g.R.Read.remaining g.W.Write.contents c.args.reader.now
    c.args.reader.now c.args.writer.now c.args.writer.now c.host_refused.result
    (host_named c.args.processors c.args.period_us c.args.slice_us) c.in-Err.fault
    c.in-Err.ensures.err c.host_refused.ensures refl refl
