pub mod Holding
pub mod Keeping
pub mod Opening
pub mod Telling
