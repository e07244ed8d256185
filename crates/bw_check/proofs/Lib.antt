-- The files of lemmas.
pub mod CallerLemmas
mod Verdicts
mod Gathered
mod MarksKept
mod Bounding
mod Deciding
mod SmallAmounts
mod Upward
