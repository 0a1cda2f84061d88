pub mod Keys
pub mod Handshake
pub mod Terms
pub mod Drawing
pub mod Wiped
