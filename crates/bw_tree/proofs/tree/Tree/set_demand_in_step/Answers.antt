-- The goals of `Tree::set_demand_in_step` that are answered by hand.
use Rattle.std.proofs.Common.{◌∙◌, is_some, ap, sym, subst}
use Rattle.bw_tree.specs.Groups.{IsTree, TreeState}
use Rattle.bw_tree.specs.Kept.{IsKept}
use Rattle.bw_tree.specs.Tree.{set_demand, with_setting}
use Rattle.bw_tree.proofs.SetLemmas.{can_demand}
use Rattle.bw_tree.proofs.KeptLemmas.{can_set_row, demand_kept, demand_stays}
use Rattle.bw_tree.proofs.tree.Tree.set_demand_in_step.Goals as goal

pub set_row_demand-requires : goal.set_row_demand-requires
set_row_demand-requires c =
    let set = c.in_ok-place.ensures.set in
    can_set_row c.args.self.now c.args.id c.in_ok-place.place c.args.demand
    c.in_ok-place.ensures.place c.args.shape (subst IsTree set.1 c.in_ok-place.ensures.valid)
    (can_demand c.args.self.now c.args.id c.args.demand set.0).small c.args.kept.now c.requires

pub returns-clause-kept : goal.returns-clause-kept
returns-clause-kept c =
    let set = c.in_ok-place.ensures.set in
    let after = subst IsTree set.1 c.in_ok-place.ensures.valid in
    let was = c.args.self.now in
    let new : TreeState = with_setting (set_demand c.args.demand) was c.args.id in
    subst (λ (t : TreeState). IsKept c.set_row_demand.new.kept t c.args.shape) (sym set.1)
    (subst (λ k. IsKept k new c.args.shape) (sym c.set_row_demand.ensures)
    (demand_kept was c.args.id c.in_ok-place.place c.args.demand c.in_ok-place.ensures.place
    c.args.shape after c.args.kept.now c.requires))

pub returns-clause-stays : goal.returns-clause-stays
returns-clause-stays c =
    ap is_some c.set_row_demand.ensures
    ∙ demand_stays c.in_ok-place.place c.args.demand c.args.kept.now
