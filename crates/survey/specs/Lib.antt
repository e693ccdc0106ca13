pub mod Surveyed
pub mod Texts
pub mod Reported
