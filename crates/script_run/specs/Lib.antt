pub mod Going
pub mod Lives
