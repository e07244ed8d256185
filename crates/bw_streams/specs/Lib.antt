-- The files of definitions.
pub mod Watched
pub mod Output
pub mod Fronts
pub mod Writes
pub mod Prints
pub mod Answers
pub mod Reading
