pub mod Spots
pub mod Changes
pub mod Difference
pub mod Texts
pub mod Written
