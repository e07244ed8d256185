-- Certificates and plans.
pub mod Bounds
pub mod BoundsCover
pub mod Tested
pub mod Optimum
pub mod Planned
pub mod Unique
