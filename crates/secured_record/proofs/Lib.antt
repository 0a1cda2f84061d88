pub mod Same
pub mod Written
pub mod Pieces
pub mod Records
pub mod Outcomes
pub mod Told
