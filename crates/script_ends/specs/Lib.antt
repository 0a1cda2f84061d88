pub mod Configured
pub mod Told
