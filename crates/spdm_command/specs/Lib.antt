pub mod Words
pub mod OutcomeTable
pub mod Answer
pub mod Streams
pub mod Checks
