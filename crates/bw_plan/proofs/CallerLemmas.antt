-- What other crates may cite of this one's proofs, each passed on from the module that proves it.
pub use Rattle.bw_plan.proofs.Shares.{map_is, weights_in_range, at_most, few_children}
pub use Rattle.bw_plan.proofs.Backward.{plan-IsPlanning}
