pub mod Left
pub mod Replaced
