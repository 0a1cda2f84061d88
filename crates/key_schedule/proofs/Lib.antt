pub mod Updates
pub mod Rows
