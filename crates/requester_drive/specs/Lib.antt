pub mod Commands
pub mod Driven
pub mod First
pub mod Standing
pub mod Told
