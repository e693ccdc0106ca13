pub mod Loaded
pub mod Ready
pub mod Sizes
pub mod Written
