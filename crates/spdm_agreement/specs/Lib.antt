pub mod Reading
pub mod Marks
pub mod Moves
pub mod Claims
pub mod Story
pub mod Configured
pub mod Worlds
