-- The goals of `certified_rows` that are answered by hand.
use Rattle.std.proofs.Common.{◌≡◌, None, sym, rules}
use Rattle.bw_cert.specs.Spelling.{text_lines}
use Rattle.bw_cert.specs.Reading.{columns_view}
use Rattle.bw_model.specs.Refusal.{refusal}
use Rattle.bw_model.proofs.CallerLemmas.{IsInstance-accepted}
use Rattle.bw_cert.proofs.Lines.{not_over, trailing, over, whole}
use Rattle.bw_cert.proofs.reading.certified_rows.Goals as goal

pub returns-then-not-is_empty-clause-exact : goal.returns-then-not-is_empty-clause-exact
returns-then-not-is_empty-clause-exact c =
    trailing (text_lines c.args.text.now) (text_lines c.in_ok-line.rest.now)
    (text_lines c.in_ok-columns.rest.now) c.in_ok-line.line.now c.in_ok-shape.shape
    c.in_ok-shape.count (columns_view c.in_ok-columns.columns)
    (sym c.in_ok-line.ensures) (sym c.in_ok-shape.ensures.read) c.in_ok-columns.ensures
    (not_over c.in_ok-columns.rest.now (search rules))

pub returns-clause-exact : goal.returns-clause-exact
returns-clause-exact c =
    let is = c.in-Ok.ensures.same in
    let fine : refusal c.in_ok-columns.columns.rows.items ≡ None =
    rw is at (IsInstance-accepted
    (record { shape = c.in_ok-shape.shape; rows = c.in-Ok.rows.items }) c.in-Ok.ensures.valid) in
    rw is (whole (text_lines c.args.text.now) (text_lines c.in_ok-line.rest.now)
    (text_lines c.in_ok-columns.rest.now) c.in_ok-line.line.now c.in_ok-shape.shape
    c.in_ok-shape.count (columns_view c.in_ok-columns.columns)
    (sym c.in_ok-line.ensures) (sym c.in_ok-shape.ensures.read) c.in_ok-columns.ensures
    (over c.in_ok-columns.rest.now (search rules)) fine)
