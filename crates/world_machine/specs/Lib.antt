pub mod Setup
pub mod Happenings
pub mod World
pub mod Trace
pub mod Chance
pub mod Agreement
pub mod Laws
pub mod Totals
