pub mod Leads
pub mod Ends
pub mod Fitted
