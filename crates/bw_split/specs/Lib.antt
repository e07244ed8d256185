-- The files of definitions.
pub mod Conditions
pub mod Levels
pub mod Counts
pub mod OneSlice
