pub mod Short
pub mod Steps
pub mod Runs
