-- The files of lemmas.
mod Asked
mod Blamed
pub mod CallerLemmas
mod Claimed
mod Fit
mod ColumnsOfGroups
mod PeriodNumbers
mod PeriodSamples
mod PeriodSums
mod PlannedHosts
mod Questions
mod RefusedRow
mod Spelling
mod Turns
