pub mod TopCall
pub mod ToldFaults
mod GeneratedSound
mod Generating
pub mod Judged
pub mod GeneratedHolds
