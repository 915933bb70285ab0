pub mod Entries
pub mod Bits
