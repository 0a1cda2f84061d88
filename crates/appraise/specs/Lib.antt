pub mod Records
pub mod Policies
pub mod Trusted
pub mod Answers
pub mod Walk
pub mod Laws
