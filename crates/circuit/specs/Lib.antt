pub mod File
pub mod Sheet
pub mod Calls
pub mod Histories
pub mod Spread
pub mod Examples
pub mod Claims
