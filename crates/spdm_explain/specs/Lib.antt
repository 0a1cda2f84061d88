pub mod Help
pub mod Report
pub mod Words
pub mod Outcomes
