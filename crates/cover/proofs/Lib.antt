pub mod Arcs
pub mod Count
pub mod Listed
pub mod Witness
pub mod Whole
