pub mod Cutting
pub mod Collecting
pub mod Keeping
pub mod Answers
pub mod Lending
