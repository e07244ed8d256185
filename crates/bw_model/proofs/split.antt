-- Marks, costs and the best split of a total among siblings.
pub mod Order
pub mod Costs
pub mod Exchange
pub mod NoGainfulMove
pub mod Pairwise
