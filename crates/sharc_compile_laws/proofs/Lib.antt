mod Imports
pub mod Looping
pub mod Ties
pub mod Tied
pub mod Tying
pub mod Traced
pub mod Naming
pub mod Pathing
pub mod Spawners
pub mod Starting
pub mod Telling
