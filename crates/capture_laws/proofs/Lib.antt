pub mod Counted
pub mod ErrorRead
pub mod Versions
pub mod Shut
pub mod Connecting
pub mod First
pub mod Warned
