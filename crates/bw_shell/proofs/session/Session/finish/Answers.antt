-- The goals of `Session::finish` that are answered by hand.
use Rattle.bw_shell.specs.Session.{session_waits}
use Rattle.bw_shell.proofs.Gathered.{Gathers-written}
use Rattle.bw_shell.proofs.session.Session.finish.Goals as goal

pub returns-in-Ok-clause-writes : goal.returns-in-Ok-clause-writes
returns-in-Ok-clause-writes g c =
    let last = c.in-Ok.ensures.ok in
    Gathers-written g.W.Write.contents c.args.writer.now c.answer_last.new.writer c.flush.new.writer
    (session_waits c.args.self.now) (session_waits c.answer_last.new.self) c.flush.result
    last.0 last.1 c.requires.none_waits last.3 last.4 last.2 last.2 c.flush.ensures.writes
