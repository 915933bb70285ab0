pub mod Lookups
pub mod View
pub mod Places
pub mod Rows
pub mod Sizes
