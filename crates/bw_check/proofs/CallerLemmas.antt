-- What other crates may cite of this one's proofs, each passed on from the module that proves it.
pub use Rattle.bw_check.proofs.Verdicts.{refused-not-accepted}
pub use Rattle.bw_model.proofs.CallerLemmas.{is_lt-IsBelow, is_le-IsAtMost}
