pub mod Stream
pub mod Memory
pub mod SessionIdBytes
pub mod Sizes
pub mod Lending
pub mod Tests
