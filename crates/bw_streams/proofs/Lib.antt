-- The files of lemmas.
pub mod CallerLemmas
mod Known
mod Quiet
mod Counted
mod Digits
mod Writing
