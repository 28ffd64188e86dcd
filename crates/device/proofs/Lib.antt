pub mod Stored
pub mod Laws
pub mod Records
pub mod RoundTrip
