pub mod Kind
pub mod Delivered
pub mod Shown
pub mod DeliveredLaws
