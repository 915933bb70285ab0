mod Imports
pub mod Lists
pub mod Telling
pub mod Entries
pub mod Answering
pub mod Breaking
pub mod Auditing
pub mod Walking
pub mod Knowing
pub mod Numerals
pub mod Parts
pub mod Placing
pub mod Blanks
pub mod Filing
pub mod Alone
pub mod OneFile
pub mod Fuels
pub mod Running
