-- The files that say what the pool and the interleaving core do.
pub mod Pool
pub mod Drained
pub mod Parents
pub mod Pools
pub mod Cores
