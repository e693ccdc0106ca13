pub mod Table
pub mod Loads
pub mod Ways
pub mod Chains
pub mod Trails
pub mod Tests
pub mod Claims
