-- The goal of `asked_slices` that is answered by hand.
use Rattle.std.proofs.Common.{◌≡◌, ◌≤◌, ◌*◌, arith}
use Rattle.bw_questions.specs.Hunger.{could_use}
use Rattle.bw_questions.proofs.TimeSlices.{slices-mono}
use Rattle.bw_questions.proofs.held.reading.asked_slices.Goals as goal

pub returns-clause-no_less : goal.returns-clause-no_less
returns-clause-no_less c =
    let times = c.args.times in
    let some_slice : 1 ≤ c.args.shape.slice_us =
    omega (arith, c.slices_of_time.ensures.host.long_slice) in
    let within : 1000 * times.used_us ≤ could_use times c.args.tasks = omega arith in
    let most : c.could_use-most.result ≡ could_use times c.args.tasks = c.could_use-most.ensures.value in
    let more = slices-mono c.args.shape times.passed_ns (1000 * times.used_us)
    c.could_use-most.result c.requires.passed some_slice (rw most within) in
    omega (arith, more, c.requires.used, c.slices_of_time.ensures.value)
