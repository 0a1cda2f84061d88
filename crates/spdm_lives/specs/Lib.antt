pub mod Lives
pub mod Apart
pub mod Fresh
pub mod Laws
