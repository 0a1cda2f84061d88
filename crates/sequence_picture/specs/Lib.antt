pub mod Drawing
pub mod Diagram
pub mod Picture
