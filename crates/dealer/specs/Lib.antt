pub mod Lengths
pub mod Fills
pub mod Parts
pub mod Shifts
pub mod Looks
