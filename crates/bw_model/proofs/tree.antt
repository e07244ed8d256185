-- Trees of rows: parents, paths, children, and the tests that accept them.
pub mod Paths
pub mod Under
pub mod Places
pub mod Listing
pub mod OneRow
pub mod Instances
