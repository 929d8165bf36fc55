pub mod Gates
pub mod Format
pub mod Faults
pub mod Read
pub mod Lists
