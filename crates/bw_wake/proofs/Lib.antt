-- The lemmas on the waiting protocol.
pub mod CallerLemmas
mod CanStep
mod CoreRefined
mod Counts
mod Effects
mod LeaveSound
mod MarkSound
mod NotStuck
mod OneSeatSound
mod OneTurn
mod PeekFirst
mod Raising
mod RoundsRaise
mod RunSound
mod Stages
mod Invariant
mod WakeSound
mod WakeWords
mod WordsApart
