pub mod Choice
pub mod Words
