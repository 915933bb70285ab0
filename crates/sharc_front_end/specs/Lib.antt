pub mod Compiled
pub mod Front
