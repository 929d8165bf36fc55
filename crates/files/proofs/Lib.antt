pub mod Chains
pub mod Filling
pub mod Left
pub mod Limits
pub mod Passed
pub mod Testing
