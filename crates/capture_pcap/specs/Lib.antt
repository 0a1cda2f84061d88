pub mod Files
pub mod Captures
pub mod Laws
