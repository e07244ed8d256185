-- The files of lemmas.
mod Faults
mod Refusals
mod Words
mod Marks
mod PlainLines
mod FourBytes
mod Totals
mod Within
mod PathLists
mod OnlyMemory
mod Kept
mod Parts
mod Taken
mod Served
pub mod CallerLemmas
