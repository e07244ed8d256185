-- The goals of `tail_below` that are answered by hand.
use Rattle.std.proofs.Common.{◌≡◌, ℕ, List, length, Some, sym, ap, subst, ◌∙◌, arith}
use Rattle.std.proofs.lemmas.List.{get_or_default}
use Rattle.bw_tree.specs.declared.node.Node.{Node}
use Rattle.bw_tree.specs.Groups.{GroupFields, child_of}
use Rattle.bw_tree.specs.Nodes.{root_node}
use Rattle.bw_tree.specs.Tails.{IsTailOf, no_tail}
use Rattle.bw_tree.proofs.TailLemmas.{tail_of_name}
use Rattle.bw_tree.proofs.node.tail_below.Goals as goal

pub returns-in_default : goal.returns-in_default
returns-in_default c = λ groups id child is named found some.
    let none : length c.none.result.text.bytes ≡ 0 = ap length c.none.ensures in
    absurd (omega (arith, some, none))

pub returns-then-is_none : goal.returns-then-is_none
returns-then-is_none c = λ groups id child is named found.
    let top = c.in-Some.top in
    let up = sym (ap (λ (g : GroupFields). g.parent) c.group.view_is) ∙ c.in-Some.is in
    let name = sym (c.as_str.ensures.value ∙ ap (λ (g : GroupFields). g.name) c.group.view_is) in
    c.of_child.ensures groups id child
    (tail_of_name groups top id c.as_str.result.now c.of_name.result c.of_name.ensures.top
    c.of_name.ensures.text
    (subst (λ (n : List ℕ). child_of groups top n ≡ Some id) name (named top up)))
    found

pub returns : goal.returns
returns c = λ groups id child is named found.
    let node = c.index.result.now in
    let same = c.index.ensures
    ∙ get_or_default c.args.nodes.now.items c.args.above node (root_node no_tail) c.requires in
    c.of_child-2.ensures groups id child
    (subst (λ (n : Node). IsTailOf groups n.tail id) (sym same) is) found
