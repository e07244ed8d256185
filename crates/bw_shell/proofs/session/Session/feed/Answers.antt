-- The goals of `Session::feed` that are answered by hand.
use Rattle.std.proofs.Common.{sym, subst}
use Rattle.bw_commands.specs.State.{State}
use Rattle.bw_shell.specs.Scan.{TakesBytes}
use Rattle.bw_shell.specs.Session.{scan_of, session_waits}
use Rattle.bw_shell.proofs.Gathered.{Gathers-written}
use Rattle.bw_shell.proofs.session.Session.feed.Goals as goal

pub returns-in-Ok-clause-writes : goal.returns-in-Ok-clause-writes
returns-in-Ok-clause-writes g c =
    let a = scan_of g.G.Gate.used c.args.self.now in
    let b = scan_of g.G.Gate.used c.take_bytes.new.self in
    let taken = c.in-Ok.ensures.ok in
    Gathers-written g.W.Write.contents c.args.writer.now c.take_bytes.new.writer c.flush.new.writer
    (session_waits c.args.self.now) (session_waits c.take_bytes.new.self) c.flush.result
    taken.0 taken.1 c.requires.none_waits taken.3 taken.4
    (subst (λ (s : State). TakesBytes a c.args.piece.now taken.0 (record b { state = s }))
    (sym c.flush.ensures.state) taken.2)
    (b, taken.2) c.flush.ensures.writes
