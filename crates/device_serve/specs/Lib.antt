pub mod Changing
pub mod Replies
pub mod Devised
pub mod Streams
pub mod Standing
