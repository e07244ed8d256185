-- What other crates may cite of this one's proofs, each passed on from the module that proves it.
pub use Rattle.bw_hierarchy.proofs.BurstLemmas.{mkdir_within, rmdir_within, demand_within}
pub use Rattle.bw_hierarchy.proofs.BurstLemmas.{write_within, booked_within}
pub use Rattle.bw_hierarchy.proofs.CallRuns.{IsKept, kept_by_any_setting, called_keeps}
pub use Rattle.bw_hierarchy.proofs.CallRuns.{unless_ok, any_ok}
