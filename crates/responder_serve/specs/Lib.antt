pub mod Served
pub mod Standing
pub mod Told
