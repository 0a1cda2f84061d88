pub mod Tells
pub mod Outstanding
pub mod Steps
