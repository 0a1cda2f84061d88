pub mod Restarts
pub mod Laws
