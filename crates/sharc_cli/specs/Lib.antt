pub mod Bounds
pub mod Commands
pub mod Line
pub mod Written
