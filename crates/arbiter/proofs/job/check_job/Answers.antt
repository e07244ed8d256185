-- The goals of `check_job` that are answered by hand.
use Rattle.std.proofs.Common.{◌∙◌}
use Rattle.arbiter.proofs.JobEnds.{checked_status}
use Rattle.arbiter.proofs.job.check_job.Goals as goal

pub returns : goal.returns
returns g c = record {
  outcome = c.check_text-checked.result;
  ok = c.check_text-checked.ensures.ok;
  reads = c.check_text-checked.ensures.reads;
  few = c.check_text-checked.ensures.few;
  prints = c.check_text-checked.ensures.prints;
  read = c.check_text-checked.ensures.read;
  write = c.check_text-checked.ensures.write;
  write_end = c.check_text-checked.ensures.write_end;
  status_is = c.check_ended.ensures
      ∙ checked_status c.check_text-checked.result c.explained.result c.explained.ensures;
}
