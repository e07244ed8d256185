-- The goals of `Tree::snapshot` that are answered by hand.
use Rattle.std.proofs.Common.{◌≡◌, List, ℕ, sym, ap, subst, eqb, ◌∙◌}
use Rattle.std.specs.List.{IsDistinct}
use Rattle.std.specs.Map.{keys_of}
use Rattle.bw_tree.specs.Groups.{TreeState}
use Rattle.bw_tree.proofs.SnapshotLemmas.{rising_distinct, rows_IsInstance, tree_IsInstance}
use Rattle.bw_tree.proofs.tree.Tree.snapshot.Goals as goal

pub of_valid-requires : goal.of_valid-requires
of_valid-requires c =
    rows_IsInstance c.self.view_is c.self.invariant.tree c.args.shape
    c.slice_us-slice_us.ensures.valid c.in_ok-ids.field-0.rows.items c.in_ok-ids.ensures.rows

pub returns-in_err-ids-clause-valid : goal.returns-in_err-ids-clause-valid
returns-in_err-ids-clause-valid c =
    tree_IsInstance c.self.view_is c.self.invariant.tree c.args.shape
    c.slice_us-slice_us.ensures.valid

pub returns-in_err-instance-clause-valid : goal.returns-in_err-instance-clause-valid
returns-in_err-instance-clause-valid c =
    tree_IsInstance c.self.view_is c.self.invariant.tree c.args.shape
    c.slice_us-slice_us.ensures.valid

pub returns-clause-distinct : goal.returns-clause-distinct
returns-clause-distinct c =
    let keys : keys_of c.self.inside.groups.entries ≡ c.in_ok-ids.field-0.ids.items =
    ap (λ (t : TreeState). keys_of t.groups) c.self.view_is ∙ sym c.in_ok-ids.ensures.ids in
    subst (λ (ids : List ℕ). IsDistinct eqb ids) keys
    (rising_distinct c.self.inside.groups.entries c.self.invariant.tree.rising)
