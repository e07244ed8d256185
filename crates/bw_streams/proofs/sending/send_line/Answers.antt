-- The goals of `send_line` that are answered by hand.
use Rattle.bw_streams.proofs.Writing.{Writes-last}
use Rattle.bw_streams.proofs.sending.send_line.Goals as goal

pub returns-clause-writes : goal.returns-clause-writes
returns-clause-writes g c =
    let sent = c.in_ok-send.ensures.ok in
    Writes-last g.W.Write.contents c.args.writer.now c.send.new.writer c.flush.new.writer
    c.flush.result sent.0 sent.2 sent.1 sent.1 c.flush.ensures.writes
