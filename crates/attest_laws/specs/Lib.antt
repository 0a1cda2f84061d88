pub mod Measured
pub mod Attested
pub mod Lives
pub mod Honest
