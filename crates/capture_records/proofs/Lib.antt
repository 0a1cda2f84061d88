pub mod Tried
mod Shown
mod Nobody
mod Answered
