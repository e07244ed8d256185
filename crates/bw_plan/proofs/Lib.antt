-- The files of lemmas.
pub mod CallerLemmas
mod Cheapest
mod Existence
mod Few
mod NoSearchNeeded
mod Shares
mod Backward
mod Collected
mod Costs
mod Done
mod OneDepth
mod PartsSent
