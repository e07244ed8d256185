-- The goals of `len_by` that are answered by hand.
use Rattle.std.proofs.Common.{◌-◌, arith, length}
use Rattle.std.proofs.lemmas.Simd.{run_in_chunk_le}
use Rattle.bw_text.specs.Words.{is_either}
use Rattle.bw_text.proofs.Lanes.{fails_before, first_in_load}
use Rattle.bw_text.proofs.scan.len_by.Goals as goal

pub returns-then-run : goal.returns-then-run
returns-then-run g c = first_in_load (is_either c.args.one c.args.other) c.args.text.now
    c.loop-at.at g.row.N c.run_among-run.result (omega arith) c.run_among-run.ensures
    c.loop-at.invariant (λ lt. omega arith)

pub loop-at-preserved : goal.loop-at-preserved
loop-at-preserved g c = λ k lt. fails_before (is_either c.args.one c.args.other) c.args.text.now
    c.loop-at.at g.row.N c.run_among-run.result (omega arith) c.run_among-run.ensures
    c.loop-at.invariant k (omega arith)

pub overflow_add-result-2 : goal.overflow_add-result-2
overflow_add-result-2 g c =
    let most = run_in_chunk_le (is_either c.args.one c.args.other) c.args.text.now
    (length c.args.text.now - g.row.N) g.row.N c.run_among.result 0 (omega arith)
    c.run_among.ensures in
    omega (arith, most)

pub returns : goal.returns
returns g c = first_in_load (is_either c.args.one c.args.other) c.args.text.now
    (length c.args.text.now - g.row.N) g.row.N c.run_among.result (omega arith)
    c.run_among.ensures (λ k lt. c.loop-at.invariant k (omega arith)) (λ lt. omega arith)
