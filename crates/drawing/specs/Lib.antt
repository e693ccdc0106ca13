pub mod Tests
pub mod Rows
pub mod Claims
pub mod Progress
pub mod Rowed
pub mod Room
