pub mod ByteField
pub mod Cipher
pub mod Tables
pub mod Schedule
pub mod Words
pub mod Begun
pub mod Slices
pub mod SlicedKeys
