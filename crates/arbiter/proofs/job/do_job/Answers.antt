-- The goals of `do_job` that are answered by hand.
use Rattle.std.proofs.Common.{◌≡◌, Some, refl, map, string_bytes, rules}
use Rattle.arbiter.specs.Words.{job_named}
use Rattle.arbiter.proofs.JobEnds.{with_job, without_job}
use Rattle.arbiter.specs.declared.words.Job.TheVariants as job
use Rattle.arbiter.proofs.job.do_job.Goals as goal

pub returns-in-Ok-Check : goal.returns-in-Ok-Check
returns-in-Ok-Check g c =
    let named : job_named (map string_bytes c.args.words.now) ≡ Some job.Check = search rules in
    with_job g.R.Read.remaining g.W.Write.contents c.args.reader.now
    c.check_job.new.reader c.args.writer.now c.check_job.new.writer c.check_job.result
    (map string_bytes c.args.words.now) job.Check named c.check_job.ensures

pub returns-in-Ok-Run : goal.returns-in-Ok-Run
returns-in-Ok-Run g c =
    let named : job_named (map string_bytes c.args.words.now)
    ≡ Some (job.Run c.in-Ok-Run.processors c.in-Ok-Run.period_us c.in-Ok-Run.slice_us) =
    search rules in
    with_job g.R.Read.remaining g.W.Write.contents c.args.reader.now
    c.run_job.new.reader c.args.writer.now c.run_job.new.writer c.run_job.result
    (map string_bytes c.args.words.now)
    (job.Run c.in-Ok-Run.processors c.in-Ok-Run.period_us c.in-Ok-Run.slice_us)
    named c.run_job.ensures

pub returns-in-Err : goal.returns-in-Err
returns-in-Err g c = without_job g.R.Read.remaining g.W.Write.contents c.args.reader.now
    c.args.reader.now c.args.writer.now c.no_job.new.writer c.no_job.result
    (map string_bytes c.args.words.now) c.in-Err.fault c.in-Err.ensures.named refl
    c.no_job.ensures
