-- The files of definitions.
pub mod Reads
pub mod CheckText
