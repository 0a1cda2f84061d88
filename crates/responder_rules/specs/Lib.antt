pub mod Place
pub mod LargeAnswer
