pub mod Answered
pub mod Listed
pub mod Making
pub mod Starting
