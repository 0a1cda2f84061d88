pub mod Short
pub mod Runs
pub mod Faults
