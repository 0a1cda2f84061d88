pub mod Labels
pub mod Schedule
pub mod Keys
pub mod Purpose
