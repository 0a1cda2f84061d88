pub mod Carried
pub mod Written
