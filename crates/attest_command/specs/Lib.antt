pub mod Policy
pub mod Text
pub mod AttestStart
pub mod Outcome
pub mod InputEnds
