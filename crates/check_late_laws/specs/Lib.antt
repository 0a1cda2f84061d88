pub mod Fetching
pub mod FetchingLaws
pub mod FetchingRows
pub mod FetchingShown
pub mod LargeAnswers
pub mod Late
