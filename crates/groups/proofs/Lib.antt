pub mod Derived
pub mod Passing
pub mod Powers
pub mod Totals
