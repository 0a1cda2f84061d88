pub mod Walked
pub mod Refusals
pub mod Requests
pub mod Answers
pub mod AllPairs
pub mod NewPairs
pub mod Verdicts
pub mod CaptureRead
mod EntriesBefore
mod OneAnswer
pub mod HasTold
