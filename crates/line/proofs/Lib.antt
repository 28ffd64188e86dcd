pub mod Pairs
pub mod Texts
