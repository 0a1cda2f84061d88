pub mod LargeRequests
pub mod Pieces
pub mod Sending
pub mod SendingAnswers
pub mod SendingLaws
pub mod SendingShown
