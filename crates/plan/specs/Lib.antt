pub mod Placement
pub mod Stores
pub mod Final
pub mod Safe
pub mod Uncut
pub mod Events
pub mod Range
