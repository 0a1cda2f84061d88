pub mod CarryLess
pub mod Field
pub mod Hash
pub mod Windows
