-- The goals of `bursts_are_bounded` that are answered by hand.
use Rattle.std.proofs.Common.{arith}
use Rattle.bw_tree.proofs.BandwidthLemmas.{left_at, carry_bound, drawn_bound}
use Rattle.bw_tree.proofs.laws.bursts_are_bounded.Goals as goal

pub returns : goal.returns
returns c = record {
  burst = λ shape id quota burst t calls keeps.
      omega (arith, drawn_bound shape id quota burst t calls keeps);
  carry = λ shape id quota burst t calls keeps.
      omega (arith, drawn_bound shape id quota burst t calls keeps);
  next_carry = carry_bound;
  left = λ shape id t drawn can. left_at shape t.groups t.groups drawn id can.count;
}
