pub mod Rowing
pub mod Reports
