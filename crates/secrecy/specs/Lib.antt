pub mod Evaluation
pub mod Script
pub mod Secrecy
pub mod Honest
pub mod Computed
