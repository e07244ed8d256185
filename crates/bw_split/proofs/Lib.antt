-- The files of lemmas.
pub mod CallerLemmas
mod Cut
mod Filling
mod LastMarks
mod NextMarks
mod Neighbours
mod Picks
mod Search
mod Takes
mod WorkSent
mod TwoChildren
