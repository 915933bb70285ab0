pub mod Links
pub mod Positions
pub mod Roots
