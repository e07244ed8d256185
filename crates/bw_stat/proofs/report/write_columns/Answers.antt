-- The goals of `write_columns` that are answered by hand.
use Rattle.std.proofs.Common.{◌≡◌, ◌∙◌, ◌++◌, [], drop, ap}
use Rattle.std.specs.Fmt.{decimal}
use Rattle.std.proofs.lemmas.List.{drop-replicate}
use Rattle.bw_stat.specs.Report.{right_aligned, column}
use Rattle.bw_stat.proofs.ColumnLemmas.{four_columns}
use Rattle.bw_stat.proofs.report.write_columns.Goals as goal

pub returns-clause-written : goal.returns-clause-written
returns-clause-written c =
    let s = c.args.stat.now in
    let none : drop 84 c.args.blanks.now ≡ [] =
    ap (drop 84) c.requires ∙ drop-replicate 84 84 32 in
    c.write_column.ensures.written
    ∙ ap (λ r. column 20 s.usage_usec ++ r) (c.write_column-end-3.ensures.written
    ∙ ap (λ r. column 10 s.nr_periods ++ r) (c.write_column-end-2.ensures.written
    ∙ ap (λ r. column 10 s.nr_throttled ++ r) (c.write_column-end.ensures.written
    ∙ ap (λ r. column 20 s.throttled_usec ++ r) none)))
    ∙ four_columns (right_aligned 20 (decimal s.usage_usec))
    (right_aligned 10 (decimal s.nr_periods)) (right_aligned 10 (decimal s.nr_throttled))
    (right_aligned 20 (decimal s.throttled_usec))
