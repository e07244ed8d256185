-- The files of definitions.
pub mod Accepted
pub mod Beside
pub mod Example
pub mod Faults
pub mod Groups
pub mod Input
pub mod Premises
pub mod Replay
pub mod Reservation
pub mod Rule
pub mod Runs
pub mod Steps
pub mod Windows
