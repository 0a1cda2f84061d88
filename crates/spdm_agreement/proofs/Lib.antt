pub mod Moves
pub mod Messages
pub mod Responder
pub mod Requester
pub mod Delivery
pub mod Worlds
