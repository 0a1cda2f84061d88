pub mod Versions
pub mod Capabilities
pub mod Tables
pub mod Choosing
pub mod Offer
pub mod Reply
pub mod OwnSizes
