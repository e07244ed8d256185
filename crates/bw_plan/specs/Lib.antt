-- The files of definitions.
pub mod Shared
pub mod Pieces
pub mod Reached
pub mod Laws
pub mod Cost
