-- The files that say what the workers do.
pub mod Rounds
pub mod Working
pub mod Serving
pub mod Faults
pub mod Headline
