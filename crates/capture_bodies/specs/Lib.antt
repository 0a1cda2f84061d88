pub mod Completing
pub mod Collecting
pub mod Answers
pub mod Keeping
