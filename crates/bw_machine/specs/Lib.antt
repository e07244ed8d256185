-- The files of definitions.
pub mod History
pub mod Seats
pub mod Schedules
