pub mod Asked
pub mod JudgedRequester
pub mod Commanded
pub mod HeardKept
pub mod LargeAsked
pub mod RefusedRequest
pub mod SealedTold
