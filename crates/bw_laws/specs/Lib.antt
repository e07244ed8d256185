-- The files of definitions.
pub mod Bursts
pub mod Cert
pub mod Counters
pub mod Ids
pub mod Needed
pub mod Parts
pub mod Readings
pub mod Transcripts
pub mod Weights
