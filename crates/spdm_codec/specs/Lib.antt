pub mod Answer
pub mod Behind
pub mod Feed
