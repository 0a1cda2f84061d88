pub mod Gcm
pub mod Behind
pub mod Stream
