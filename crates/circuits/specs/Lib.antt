pub mod Nets
pub mod Circuits
pub mod Made
pub mod Looked
