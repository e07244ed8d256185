-- The goals of `sum_at` that are answered by hand.
use Rattle.std.proofs.Common.{◌≡◌, ◌∙◌, ap, arith, length, take}
use Rattle.std.specs.Prelude.{◌-◌, ◌^◌, min, slice_index, sum_by}
use Rattle.std.proofs.Math.Seq.{take-length}
use Rattle.std.proofs.lemmas.List.Sums.{sum_by_more}
use Rattle.bw_questions.proofs.from_root.sums.sum_at.Goals as goal

pub loop-k-preserved : goal.loop-k-preserved
loop-k-preserved c = record {
  so_far = omega (
    arith,
    c.saturating_add-sum.ensures,
    c.loop-k.invariant.so_far,
    sum_by_more (slice_index c.args.values.now) c.args.rows.now c.loop-k.k 0 c.loop-k-test.true,
  );
}

pub returns : goal.returns
returns c =
    let end : c.loop-k.k ≡ length c.args.rows.now =
    omega (arith, c.loop-k-test.false, c.loop-k.auto.k-end) in
    c.loop-k.invariant.so_far
    ∙ ap (λ xs. min (sum_by (slice_index c.args.values.now) xs) (2 ^ 64 - 1))
    (ap (λ n. take n c.args.rows.now) end ∙ take-length c.args.rows.now)
