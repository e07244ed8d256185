-- The goals of `Tree::cut_end` that are answered by hand.
use Rattle.std.proofs.Common.{Some}
use Rattle.std.proofs.lemmas.Bool.Decides.{Decides-eqb}
use Rattle.std.proofs.lemmas.Slice.Eq.{strip_suffix_is}
use Rattle.bw_tree.proofs.tree.Tree.cut_end.Goals as goal

pub returns-clause-cut : goal.returns-clause-cut
returns-clause-cut c =
    let front = c.in_ok-front.front in
    let end = c.in_ok-above.end.now in (
      end,
      c.in_ok-above.ensures.way,
      strip_suffix_is Decides-eqb c.args.text.now end (Some front) c.in_ok-front.ensures.cases,
    )
