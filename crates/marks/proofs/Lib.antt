pub mod Fields
pub mod Linking
pub mod Following
