-- The files of definitions.
pub mod Transcript
pub mod Scan
pub mod Stream
pub mod Gathers
pub mod Piece
pub mod Responder
pub mod Session
pub mod Runs
