-- The files of lemmas.
pub mod CallerLemmas
mod BurstLemmas
mod CallRuns
mod FileNames
mod LastSlash
mod SettingLemmas
mod Unwritten
mod Writes
