pub mod Repeat
pub mod Words
