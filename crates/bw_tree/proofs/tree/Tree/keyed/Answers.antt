-- The goals of `Tree::keyed` that are answered by hand.
use Rattle.std.proofs.Common.{◌≡◌, ◌∙◌, Some, true, ap, subst, rules}
use Rattle.bw_tree.specs.Groups.{IsTree}
use Rattle.bw_tree.specs.Paths.{path_at}
use Rattle.bw_tree.proofs.WayLemmas.{path_leads}
use Rattle.bw_tree.proofs.tree.Tree.keyed.Goals as goal

pub returns : goal.returns
returns c =
    let there : c.is_spelled.result ≡ true = search rules in
    let is : path_at c.args.self.now.groups c.in_ok-id.id ≡ Some c.args.path.now =
    c.is_spelled.ensures there ∙ ap Some c.as_bytes-2.ensures.value in
    path_leads c.args.self.now (subst IsTree c.self.view_is c.self.invariant.tree)
    c.args.path.now c.in_ok-id.id is
