pub mod AgainInSession
pub mod Marking
pub mod Passed
pub mod PassedCompletes
pub mod PassedLarge
pub mod PassedLast
pub mod PassedSessions
pub mod PassedStands
