pub mod Brings
pub mod Made
pub mod Tells
