mod Imports
pub mod Answering
pub mod Complete
pub mod Distinct
pub mod Entries
pub mod Latest
pub mod Making
pub mod Places
pub mod Sound
