pub mod Made
pub mod Versions
