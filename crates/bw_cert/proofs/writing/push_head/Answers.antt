-- The goals of `push_head` that are answered by hand.
use Rattle.std.specs.Prelude.{string_bytes}
use Rattle.std.specs.Fmt.{decimal}
use Rattle.bw_cert.proofs.Written.{head_text}
use Rattle.bw_cert.proofs.writing.push_head.Goals as goal

pub returns : goal.returns
returns c =
    rw (
      c.in_ok-push_str-5.ensures.bytes,
      c.in_ok-push_number-4.ensures.bytes,
      c.in_ok-push_str-4.ensures.bytes,
      c.in_ok-push_number-3.ensures.bytes,
      c.in_ok-push_str-3.ensures.bytes,
      c.in_ok-push_number-2.ensures.bytes,
      c.in_ok-push_str-2.ensures.bytes,
      c.in_ok-push_number.ensures.bytes,
      c.in_ok-push_str.ensures.bytes,
    )
    (rw (c.processors.ensures.value, c.period_us.ensures.value, c.slice_us.ensures.value)
    (head_text (string_bytes c.args.out.now) (decimal c.args.shape.processors)
    (decimal c.args.shape.period_us) (decimal c.args.shape.slice_us)
    (decimal c.args.count)))
