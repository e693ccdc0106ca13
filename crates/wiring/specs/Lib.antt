pub mod Net
pub mod Paths
pub mod Lengths
pub mod Views
pub mod Refusals
pub mod Loads
pub mod Lists
