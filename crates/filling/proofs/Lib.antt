pub mod Placing
pub mod Measuring
pub mod Ending
