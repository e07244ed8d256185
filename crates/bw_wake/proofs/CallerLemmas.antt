-- What other crates may cite of this one's proofs, each passed on from the module that proves it.
pub use Rattle.bw_wake.proofs.Invariant.{waits, holds, may_sleep, Stands, Sound}
pub use Rattle.bw_wake.proofs.NotStuck.{wake_under_way, goes_on, not_stuck}
pub use Rattle.bw_wake.proofs.RunSound.{happens_sound, run_sound}
pub use Rattle.bw_wake.proofs.WakeSound.{start_sound}
pub use Rattle.bw_wake.proofs.WordsApart.{to_next}
pub use Rattle.bw_wake.proofs.OneTurn.{one_turn}
pub use Rattle.bw_wake.proofs.Counts.{count_at, same_one}
pub use Rattle.bw_wake.proofs.Raising.{seven_events_raise_serving}
pub use Rattle.bw_wake.proofs.RoundsRaise.{drawn_tickets_are_served}
pub use Rattle.bw_wake.proofs.OneSeatSound.{among_none, among_in, among_rest, one_less-will_peek}
pub use Rattle.bw_wake.proofs.WakeWords.{same_words, index_here, index_else}
pub use Rattle.bw_wake.proofs.CoreRefined.{get_map}
