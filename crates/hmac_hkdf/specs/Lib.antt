pub mod Hmac
pub mod Hkdf
pub mod Draw
pub mod Keyed
