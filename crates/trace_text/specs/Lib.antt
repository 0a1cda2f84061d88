pub mod Spelling
pub mod TraceWords
pub mod TraceLines
pub mod Whose
pub mod OtherLines
