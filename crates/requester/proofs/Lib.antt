pub mod Limits
pub mod Tags
pub mod Chosen
pub mod Steps
pub mod Commanding
