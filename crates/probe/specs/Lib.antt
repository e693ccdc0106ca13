pub mod Places
pub mod Drawn
pub mod Answers
pub mod Probed
