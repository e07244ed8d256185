-- Totals of groups, and the greatest total that a group can reach.
pub mod Totals
pub mod ChildSums
pub mod Mosts
pub mod Reach
pub mod DemandOutside
pub mod Limiting
