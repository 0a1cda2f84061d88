pub mod Setup
pub mod Terms
pub mod Keys
pub mod Sessions
pub mod Bodies
pub mod TagLog
pub mod Packets
