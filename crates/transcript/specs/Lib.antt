pub mod Lane
pub mod Transcripts
