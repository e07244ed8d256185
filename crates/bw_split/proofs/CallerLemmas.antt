-- What other crates may cite of this one's proofs, each passed on from the module that proves it.
pub use Rattle.bw_split.proofs.Cut.{cut-none, cut-CanSplit, cut-IsBestSplit}
pub use Rattle.bw_split.proofs.Filling.{IsFilled, none_filled, filled_more, not_full}
pub use Rattle.bw_split.proofs.Filling.{filled-IsBestSplit}
pub use Rattle.bw_split.proofs.Neighbours.{best_is_unmoved}
pub use Rattle.bw_split.proofs.Search.{all-IsBestSplit}
pub use Rattle.bw_split.proofs.WorkSent.{work_sent}
