-- The goals of `finding_in` that are answered by hand.
use Rattle.std.proofs.Common.{refl}
use Rattle.bw_model.specs.Certificate.{certified_of}
use Rattle.bw_text_check.proofs.text_check.finding_in.Goals as goal

pub returns-in_ok-verdict-in-Ok-clause-found : goal.returns-in_ok-verdict-in-Ok-clause-found
returns-in_ok-verdict-in-Ok-clause-found c =
    rw c.in-Ok.ensures.exact
    (record {
      certificate = certified_of c.in-Ok.read.certificate;
      flags = refl;
      levels = refl;
      given = rw c.as_slice.ensures.value at c.in_ok-verdict-in-Ok.ensures.verdict;
    })
