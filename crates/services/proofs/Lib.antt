pub mod Doings
pub mod Gated
pub mod Laws
pub mod Outcomes
