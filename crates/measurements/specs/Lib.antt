pub mod Blocks
pub mod Records
pub mod Summaries
pub mod Faults
