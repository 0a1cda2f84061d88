pub mod Hash
pub mod Holds
