pub mod Config
pub mod SetUp
pub mod Standing
pub mod Wiped
