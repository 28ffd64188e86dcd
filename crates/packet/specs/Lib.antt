pub mod Packets
pub mod Lawful
