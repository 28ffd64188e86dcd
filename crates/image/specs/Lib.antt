pub mod Sums
pub mod Images
