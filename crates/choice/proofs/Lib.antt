pub mod Sheets
pub mod Choices
pub mod Orders
