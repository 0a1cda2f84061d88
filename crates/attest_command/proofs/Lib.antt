pub mod LineCounts
pub mod ReadTexts
pub mod ParsedTexts
pub mod Streams
pub mod Answered
pub mod Ends
