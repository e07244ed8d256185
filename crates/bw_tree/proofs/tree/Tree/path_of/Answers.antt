-- The goals of `Tree::path_of` that are answered by hand.
use Rattle.std.proofs.Common.{◌≡◌, Some, rules, subst}
use Rattle.std.specs.String.{string_bytes}
use Rattle.bw_tree.specs.Groups.{IsTree}
use Rattle.bw_tree.specs.Paths.{path_at}
use Rattle.bw_tree.proofs.WayLemmas.{path_leads}
use Rattle.bw_tree.proofs.tree.Tree.path_of.Goals as goal

pub returns-clause-found : goal.returns-clause-found
returns-clause-found c =
    let is : path_at c.args.self.now.groups c.args.id ≡ Some (string_bytes c.push_path.new.path) =
    search rules in
    path_leads c.args.self.now (subst IsTree c.self.view_is c.self.invariant.tree)
    (string_bytes c.push_path.new.path) c.args.id is
