pub mod Device
pub mod Slots
pub mod Boots
pub mod Memory
pub mod Runs
