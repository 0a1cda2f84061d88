pub mod Versioned
