-- The goal of `planned` that is answered by hand.
use Rattle.std.proofs.Common.{refl}
use Rattle.bw_questions.proofs.AskingRows.{amount_each}
use Rattle.bw_questions.proofs.from_root.beside.planned.Goals as goal

pub returns : goal.returns
returns c = record {
  one_each = amount_each c.args.instance.now c.rows-rows.ensures.valid
      c.in_ok-planned.planned.amounts.items c.in_ok-planned.ensures;
  each = λ h below. (c.in_ok-planned.planned.amounts.items, c.in_ok-planned.ensures, refl);
}
