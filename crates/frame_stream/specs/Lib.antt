pub mod Text
pub mod Lines
pub mod Parts
pub mod Frames
pub mod Causes
pub mod Standing
pub mod Packets
pub mod Runs
