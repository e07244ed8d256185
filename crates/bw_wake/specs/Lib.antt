-- The files that say what the waiting protocol does.
pub mod Protocol
pub mod Progress
pub mod Raises
pub mod Cores
pub mod Refines
pub mod Rounds
