-- Definitions of the laws of a change.
pub mod Asked
pub mod Cut
pub mod Fairness
pub mod Host
pub mod Idle
pub mod Inside
pub mod OneSplit
pub mod Order
pub mod Outer
pub mod Places
pub mod Room
pub mod Tree
pub mod Weight
