-- The files that say what places are, and what a step on the table of places does.
pub mod Lent
pub mod Rule
pub mod Plays
pub mod Parts
pub mod Bells
pub mod Waits
pub mod Visits
pub mod Turns
pub mod Crowd
pub mod CrowdLaws
pub mod CrowdRounds
pub mod BothTables
