pub mod AsRequester
pub mod AsResponder
pub mod Faults
pub mod Held
