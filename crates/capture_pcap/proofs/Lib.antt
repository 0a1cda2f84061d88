pub mod Taken
mod ReadBack
