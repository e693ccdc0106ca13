pub mod Numbers
pub mod Splitting
pub mod Cutting
pub mod Refusing
pub mod Unique
