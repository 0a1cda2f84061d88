pub mod Worlds
pub mod Coming
pub mod Frames
pub mod Traces
pub mod Carriage
pub mod Laws
pub mod Devices
pub mod DeviceLaws
