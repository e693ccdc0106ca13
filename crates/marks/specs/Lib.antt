pub mod Marks
pub mod Shown
pub mod Links
pub mod Follow
pub mod Left
