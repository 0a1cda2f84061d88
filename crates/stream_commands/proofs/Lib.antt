pub mod Texts
pub mod Streams
pub mod Begun
pub mod ServingAnswers
pub mod DrivingAnswers
pub mod Answered
pub mod Exactly
pub mod Ends
