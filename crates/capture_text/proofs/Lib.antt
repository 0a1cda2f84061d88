pub mod Taken
pub mod Numbered
mod Numbers
mod HexWords
mod LineWords
mod PacketWords
pub mod CaptureBack
pub mod PacketsFit
