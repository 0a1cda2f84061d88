pub mod Attesting
pub mod Standing
pub mod Wiped
