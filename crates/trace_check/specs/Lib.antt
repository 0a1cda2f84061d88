pub mod Limits
pub mod Bodies
pub mod JudgedPair
pub mod Checker
pub mod Texts
pub mod Lines
pub mod Answers
