-- The goals of `verdict_in` that are answered by hand.
use Rattle.std.proofs.Common.{refl}
use Rattle.bw_model.specs.Certificate.{certified_of}
use Rattle.bw_columns.proofs.checked.verdict_in.Goals as goal

pub returns-clause-verdict : goal.returns-clause-verdict
returns-clause-verdict c =
    rw c.in_ok-certified.ensures.exact
    (record {
      certificate = certified_of c.in_ok-certified.certified.certificate;
      flags = refl;
      levels = refl;
      given = rw c.as_slice.ensures.value at c.in_ok-check.ensures.verdict;
    })
