-- The goal of `leaf_reading` that is answered by hand.
use Rattle.std.proofs.Common.{◌≤◌, arith}
use Rattle.bw_questions.proofs.TimeSlices.{slices-mono}
use Rattle.bw_questions.proofs.held.leaf.leaf_reading.Goals as goal

pub returns-clause-no_less : goal.returns-clause-no_less
returns-clause-no_less c =
    let some_slice : 1 ≤ c.args.shape.slice_us =
    omega (arith, c.slices_of_time-used.ensures.host.long_slice) in
    let within : c.from.result ≤ c.asked_ns.result = omega (arith, c.asked_ns.ensures.no_less) in
    let more = slices-mono c.args.shape c.args.times.passed c.from.result c.asked_ns.result
    c.requires.passed some_slice within in
    omega (
      arith,
      more,
      c.slices_of_time-used.ensures.value,
      c.slices_of_time-asked.ensures.value,
    )
