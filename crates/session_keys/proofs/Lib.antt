pub mod Purposes
pub mod Draws
