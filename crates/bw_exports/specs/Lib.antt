-- The files of definitions.
pub mod Checked
pub mod Held
pub mod Limited
pub mod Names
pub mod Owned
pub mod PlannedHosts
pub mod RefusedRow
pub mod Script
pub mod ScriptTold
pub mod Settings
pub mod Texts
pub mod Units
