pub mod Kept
pub mod Gates
pub mod Chunks
pub mod Looked
