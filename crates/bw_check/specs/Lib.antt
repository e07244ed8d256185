-- The files of definitions.
pub mod Counts
pub mod Faults
pub mod Levels
pub mod Tables
pub mod Verdict
pub mod Visits
