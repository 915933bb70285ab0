mod Imports
pub mod Members
pub mod Steps
pub mod Seats
pub mod Settling
pub mod Giving
pub mod Closing
pub mod Names
