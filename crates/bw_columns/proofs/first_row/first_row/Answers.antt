-- The goals of `first_row` that are answered by hand.
use Rattle.std.proofs.Common.{◌≡◌, arith, sym, ◌∙◌, length}
use Rattle.bw_columns.specs.Asked.{table_of, rows_in}
use Rattle.bw_columns.proofs.Asked.{rows_length}
use Rattle.bw_columns.proofs.first_row.first_row.Goals as goal

pub returns-then-has_fault-clause-some : goal.returns-then-has_fault-clause-some
returns-then-has_fault-clause-some c =
    let long : length (rows_in (table_of c.args.columns.now))
    ≡ length c.args.columns.now.parents.now =
    rows_length (table_of c.args.columns.now) in
    record {
      within = omega (arith, long, c.loop-g-test.true, c.len-g-end.ensures);
      faulty = sym c.has_fault.ensures ∙ c.if-has_fault.true;
      before = c.loop-g.invariant;
    }

pub returns-clause-none : goal.returns-clause-none
returns-clause-none c = λ k within.
    let long : length (rows_in (table_of c.args.columns.now))
    ≡ length c.args.columns.now.parents.now =
    rows_length (table_of c.args.columns.now) in
    c.loop-g.invariant k (omega (arith, long, within, c.loop-g-test.false, c.len-g-end.ensures))
