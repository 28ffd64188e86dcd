pub mod Cases
pub mod Image
pub mod Demand
pub mod Refusals
pub mod Reasons
pub mod InBytes
