-- The lemmas on pools, drained workers and schedules.
pub mod CallerLemmas
mod Amounts
mod GiveBackComputed
mod BareRows
mod Ceilings
mod Drained
mod DrawTurn
mod DrawComputed
mod Holdings
mod Lists
mod GiveBackTurn
mod Places
mod PoolSound
mod StepsUp
mod Trees
mod Witness
mod Workers
