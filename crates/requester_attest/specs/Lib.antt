pub mod Words
pub mod Attested
pub mod Standing
