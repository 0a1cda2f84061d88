pub mod Numbers
pub mod Writing
pub mod Reading
pub mod Outcome
pub mod Laws
