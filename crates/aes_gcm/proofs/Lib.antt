pub mod Tags
pub mod Twice
pub mod Blocks
pub mod Pieces
