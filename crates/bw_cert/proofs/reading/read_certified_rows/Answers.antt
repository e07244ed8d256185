-- The goals of `read_certified_rows` that are answered by hand.
use Rattle.bw_cert.specs.Reading.{rows_view}
use Rattle.bw_cert.proofs.Found.{is_found}
use Rattle.bw_cert.proofs.AllAgain.{is_only}
use Rattle.bw_cert.proofs.reading.read_certified_rows.Goals as goal

pub returns-clause-found : goal.returns-clause-found
returns-clause-found c =
    is_found rows_view c.args.text.now c.certified_rows.result c.certified_rows.ensures.exact

pub returns-clause-only : goal.returns-clause-only
returns-clause-only c =
    is_only rows_view c.args.text.now c.certified_rows.result c.certified_rows.ensures.exact
