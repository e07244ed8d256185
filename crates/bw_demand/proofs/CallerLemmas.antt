-- What other crates may cite of this one's proofs, each passed on from the module that proves it.
pub use Rattle.bw_demand.proofs.ByDepth.{depth_row, depth_rises, depth_has, depth_is, depth_within}
pub use Rattle.bw_demand.proofs.ByDepth.{IsListed, is_listed}
pub use Rattle.bw_demand.proofs.FirstFigures.{pushed, children_few, passing_few}
pub use Rattle.bw_demand.proofs.Seen.{among}
