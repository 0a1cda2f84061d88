pub mod LastData
pub mod Short
pub mod Written
pub mod Runs
pub mod Faults
pub mod Unique
