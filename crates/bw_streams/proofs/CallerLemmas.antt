-- What other crates may cite of this one's proofs, each passed on from the module that proves it.
pub use Rattle.bw_streams.proofs.Known.{Appends-nil, Consumes-nil, Appends-trans, Consumes-trans}
pub use Rattle.bw_streams.proofs.Known.{Appends-kept, Consumes-kept, Appends-none, AppendsFront-all}
pub use Rattle.bw_streams.proofs.Known.{AppendsFront-after, AppendsFront-more, OnErr-map, OnOk-map}
pub use Rattle.bw_streams.proofs.Known.{Consumes-none, moves_err}
pub use Rattle.bw_streams.proofs.Quiet.{quiet_read}
pub use Rattle.bw_streams.proofs.Counted.{none_read, one_more_read, last_read}
pub use Rattle.bw_streams.proofs.Writing.{Writes-after, Writes-last, Writes-first, Writes-map}
pub use Rattle.bw_streams.proofs.Writing.{Writes-none, Writes-err, Writes-fails}
