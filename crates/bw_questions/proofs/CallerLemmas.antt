-- What other crates may cite of this one's proofs, each passed on from the module that proves it.
pub use Rattle.bw_questions.proofs.Rows.{one_each}
pub use Rattle.bw_questions.proofs.ServedRounds.{part_le, beside_le, served_le}
pub use Rattle.bw_questions.proofs.TimeSlices.{div-mono}
pub use Rattle.bw_questions.proofs.Levels.{part_le_sum}
pub use Rattle.bw_questions.proofs.changes.Lists.{outside}
pub use Rattle.bw_questions.proofs.changes.Trees.{children_same, planned, from_the_root}
pub use Rattle.bw_questions.proofs.changes.Trees.{under_same, want_same, split_over}
pub use Rattle.bw_questions.proofs.BusyPair.{busy_groups, busy_valid, busy_tree, busy_demands}
pub use Rattle.bw_questions.proofs.BusyPair.{busy_limits, busy_weights, busy_under, busy_long}
pub use Rattle.bw_questions.proofs.BusyGets.{guaranteed_by_busy}
