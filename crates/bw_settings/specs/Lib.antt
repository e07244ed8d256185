-- The files of definitions.
pub mod Columns
pub mod Following
pub mod Settings
pub mod Several
