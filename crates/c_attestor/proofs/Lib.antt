pub mod AsAttestor
pub mod Opened
