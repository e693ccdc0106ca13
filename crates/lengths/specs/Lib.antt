pub mod Check
pub mod Tables
pub mod Asked
pub mod Pairs
pub mod Steps
pub mod Worked
pub mod Wording
