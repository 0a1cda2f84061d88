pub mod Devised
pub mod Outcome
