pub mod Packets
pub mod Spelled
mod ThreePackets
mod GroupStep
mod StandsFor
mod WholeRoute
mod SpanList
mod Room
mod NewStart
pub mod CutAndGathered
pub mod OwnPackets
