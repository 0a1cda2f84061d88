pub mod Members
pub mod Settling
