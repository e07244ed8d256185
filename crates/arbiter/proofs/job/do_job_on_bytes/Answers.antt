-- The goals of `do_job_on_bytes` that are answered by hand.
use Rattle.std.proofs.Common.{◌≡◌, ◌∙◌, ℕ, List, [], Option, Some, map, string_bytes, ap, sym, refl, rules}
use Rattle.bw_streams.specs.Watched.{inner_of}
use Rattle.arbiter.proofs.JobEnds.{bytes_of}
use Rattle.arbiter.proofs.job.do_job_on_bytes.Goals as goal

pub returns : goal.returns
returns g c = bytes_of c.new-reader.result c.do_job-status.new.reader c.new-writer.result
    c.do_job-status.new.writer (λ s. Some s.now) (λ v. Some v.items) c.do_job-status.result
    c.args.input.now (inner_of c.do_job-status.new.reader).now c.into_inner.result.items
    (search rules) refl (search rules) (search rules) (map string_bytes c.args.words.now)
    c.do_job-status.ensures
