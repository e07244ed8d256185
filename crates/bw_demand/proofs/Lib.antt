-- The files of lemmas.
pub mod CallerLemmas
mod ByDepth
mod Seen
mod WantsGathered
mod LimitingListed
mod FirstFigures
mod Joining
