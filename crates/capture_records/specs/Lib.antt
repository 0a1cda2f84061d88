pub mod Keyed
pub mod Opening
pub mod Heard
pub mod Showing
pub mod Ends
pub mod Hearing
pub mod Inside
