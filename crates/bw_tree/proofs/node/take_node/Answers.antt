-- The goals of `take_node` that are answered by hand.
use Rattle.std.proofs.Common.{◌≡◌, ◌+◌, suc, List, sym, ap, ◌∙◌, arith}
use Rattle.std.proofs.Math.ListN.{length-set}
use Rattle.std.specs.Prelude.{slice_set}
use Rattle.bw_tree.specs.declared.node.Node.{Node}
use Rattle.bw_tree.specs.Nodes.{lowered, lowered_from}
use Rattle.bw_tree.proofs.LowerLemmas.{lower_end, lower_step}
use Rattle.bw_tree.proofs.node.take_node.Goals as goal

pub loop-i-preserved : goal.loop-i-preserved
loop-i-preserved c =
    let ns = c.loop-i.nodes.items in
    let i = c.loop-i.i in
    let x = c.index_mut.result.now in
    let next : i + 1 ≡ suc i = omega arith in
    record {
      long = length-set ns i c.lower.new.node ∙ c.loop-i.invariant.long;
      rest =
          ap (λ (y : Node). lowered_from c.args.place (i + 1) (slice_set ns i y)) c.lower.ensures
          ∙ ap (λ n. lowered_from c.args.place n (slice_set ns i (lowered c.args.place x))) next
          ∙ lower_step c.args.place ns i x (omega (arith, c.loop-i.invariant.long))
          c.index_mut.ensures.value
          ∙ c.loop-i.invariant.rest;
    }

pub returns : goal.returns
returns c =
    sym (lower_end c.args.place c.loop-i.nodes.items c.loop-i.i
    (omega (arith, c.loop-i.invariant.long)))
    ∙ c.loop-i.invariant.rest
    ∙ ap (λ (ns : List Node). lowered_from c.args.place c.args.place ns) c.remove.ensures.items
