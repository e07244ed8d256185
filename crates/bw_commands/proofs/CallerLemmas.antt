-- What other crates may cite of this one's proofs, each passed on from the module that proves it.
pub use Rattle.bw_commands.proofs.Kept.{kept_of-long, kept_of-short}
pub use Rattle.bw_commands.proofs.Within.{drawn_within}
