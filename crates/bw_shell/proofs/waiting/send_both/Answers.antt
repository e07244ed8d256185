-- The goals of `send_both` that are answered by hand.
use Rattle.std.proofs.Common.{refl}
use Rattle.bw_shell.proofs.Gathered.{Writes-gathered, Writes-waiting}
use Rattle.bw_shell.proofs.waiting.send_both.Goals as goal

pub returns-in-Ok : goal.returns-in-Ok
returns-in-Ok g c =
    let sent = c.in-Ok.ensures.writes.ok in
    Writes-gathered g.W.Write.contents c.args.writer.now c.send_waiting.new.writer c.send.new.writer
    c.args.waiting.now.items c.send_waiting.new.waiting.items c.send.result sent.0 c.args.text.now
    sent.2 sent.1 c.in-Ok.ensures.empty c.send.ensures

pub returns-in-Err : goal.returns-in-Err
returns-in-Err g c =
    Writes-waiting g.W.Write.contents c.args.writer.now c.send_waiting.new.writer
    c.args.waiting.now.items c.send_waiting.new.waiting.items c.in-Err.fault c.args.text.now refl
    c.in-Err.ensures.writes
