-- The goals of `read_some` that are answered by hand.
use Rattle.std.proofs.Common.{[]}
use Rattle.bw_streams.proofs.CallerLemmas.{Appends-nil}
use Rattle.bw_shell.proofs.Scanning.{TakesBytes-nil}
use Rattle.bw_shell.proofs.script.read_some.Goals as goal

pub returns-in-Ok-eq0-clause-ok : goal.returns-in-Ok-eq0-clause-ok
returns-in-Ok-eq0-clause-ok g c = (
  [],
  [],
  TakesBytes-nil _,
  (rw c.in-Ok-eq0.field-0-test at c.in-Ok-eq0.ensures.bytes).0,
  Appends-nil _,
)
