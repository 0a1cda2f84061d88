pub mod Conforming
pub mod Trying
pub mod OneTold
