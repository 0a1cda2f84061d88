pub mod Laws
pub mod Scripts
pub mod Worlds
pub mod Given
pub mod Refused
pub mod Ends
