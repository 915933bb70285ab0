mod Imports
pub mod Members
pub mod Queue
pub mod Kept
pub mod Drawing
pub mod Looking
pub mod Passing
pub mod Seats
pub mod Giving
pub mod Closing
pub mod Names
pub mod Turning
pub mod Dealing
pub mod Places
pub mod Rounding
pub mod Running
pub mod Appending
