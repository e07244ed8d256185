-- What other crates may cite of this one's proofs, each passed on from the module that proves it.
pub use Rattle.bw_tree.proofs.SetLemmas.{look_set_other, look_set_same, child_set, settings_join}
pub use Rattle.bw_tree.proofs.SetLemmas.{settable_still, can_demand, demand_IsTree}
pub use Rattle.bw_tree.proofs.SetLemmas.{weight_IsTree, max_IsTree, burst_IsTree}
pub use Rattle.bw_tree.proofs.WayLemmas.{path_leads, found_path}
pub use Rattle.bw_tree.proofs.PathSteps.{row_has_group, root_path, first_path, below_path}
pub use Rattle.bw_tree.proofs.GroupLemmas.{can_make, made_IsTree, root_IsTree}
pub use Rattle.bw_tree.proofs.RemoveLemmas.{can_remove, removed_IsTree}
pub use Rattle.bw_tree.proofs.CarryLemmas.{carried_IsTree}
pub use Rattle.bw_tree.proofs.SnapshotLemmas.{rows_tree}
