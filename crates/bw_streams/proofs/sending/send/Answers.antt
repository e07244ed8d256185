-- The goals of `send` that are answered by hand.
use Rattle.bw_streams.proofs.Known.{sends_more}
use Rattle.bw_streams.proofs.Quiet.{quiet_write}
use Rattle.bw_streams.proofs.sending.send.Goals as goal

pub loop-rest-preserved : goal.loop-rest-preserved
loop-rest-preserved g c =
    let s = c.loop-rest.invariant.sent in
    record {
      sent = rw c.split_at.ensures.back
          (sends_more _ _ _ c.args.text.now s.0 c.loop-rest.rest.now c.in-Ok.n s.1
          c.in-Ok.ensures.bytes s.2);
      quiet = quiet_write c.loop-rest.writer c.write.new.self c.loop-rest.rest.now c.in-Ok.n
          c.loop-rest.invariant.quiet c.in-Ok.ensures.failed
          c.in-Ok.ensures.stalled c.in-Ok.n-test.1;
    }
