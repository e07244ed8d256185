-- What other crates may cite of this one's proofs, each passed on from the module that proves it.
pub use Rattle.bw_machine.proofs.Histories.{replay-snoc, legal-snoc, own_from-snoc, own_from-other}
pub use Rattle.bw_machine.proofs.Histories.{own_entries, own_places}
pub use Rattle.bw_machine.proofs.ListsByPlace.{count_set, length_snoc, get_same, get_other}
pub use Rattle.bw_machine.proofs.ListsByPlace.{set_map, set_mapped, first_is}
pub use Rattle.bw_machine.proofs.Numbers.{equal_or_not}
pub use Rattle.bw_machine.proofs.OneThread.{every_schedule_is_one_thread}
pub use Rattle.bw_machine.proofs.CountSent.{count_sent}
