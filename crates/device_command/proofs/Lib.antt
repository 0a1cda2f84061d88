pub mod Streams
pub mod DeviceAnswers
pub mod Ends
