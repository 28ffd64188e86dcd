pub mod Line
pub mod Responses
pub mod Steps
pub mod InPlace
