-- The files of definitions.
pub mod Allowed
pub mod Formulas
pub mod Harm
pub mod Judged
pub mod Laws
pub mod Least
pub mod LetGo
pub mod Limits
pub mod Logarithm
pub mod Pods
pub mod Requests
pub mod Rest
pub mod Round
pub mod Shares
pub mod Swings
pub mod Weights
