pub mod ChunkList
pub mod KeptChunks
pub mod ChunkSteps
pub mod CutAndCollected
pub mod FewChunks
pub mod WorkedChunks
pub mod ChunkLengths
