pub mod Laws
pub mod Reader
pub mod Digits
