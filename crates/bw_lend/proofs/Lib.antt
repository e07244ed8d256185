-- The files of lemmas.
pub mod Lists
pub mod Bells
pub mod Moved
pub mod Kept
pub mod Handed
pub mod Finished
mod Holding
mod CrowdInvariant
mod CrowdKept
mod CrowdWalks
mod CrowdErrands
mod CrowdHands
mod CrowdLeaves
mod CrowdTurns
mod CrowdRuns
mod CrowdGoesOn
mod CrowdEffects
mod CrowdStages
mod CrowdRaises
mod CrowdComes
mod CrowdRises
mod Turned
mod TurnsRun
mod TurnsLeave
mod TurnsLed
mod BothHeld
mod BothRuns
mod BothLed
mod BothNotes
mod BothAccesses
mod PlacesOwed
