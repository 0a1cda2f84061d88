pub mod Fitting
pub mod Honest
pub mod Connecting
pub mod Measuring
pub mod InStep
pub mod SessionCommands
pub mod Opening
pub mod Scripts
