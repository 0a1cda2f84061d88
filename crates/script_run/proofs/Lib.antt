pub mod Going
pub mod NoFault
pub mod LifeText
pub mod Lived
pub mod LivesRead
