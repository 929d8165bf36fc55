pub mod Numbers
pub mod Tests
