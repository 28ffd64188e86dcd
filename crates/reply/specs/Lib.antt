pub mod Replies
pub mod Message
