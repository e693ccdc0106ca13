pub mod Checks
pub mod Best
pub mod Filling
pub mod Asking
pub mod Pinned
pub mod Worked
