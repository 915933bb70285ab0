pub mod Lists
pub mod Pairs
pub mod Alike
pub mod Waiters
pub mod Lowest
pub mod Unbroken
mod About
mod Entries
mod Mains
mod Counting
mod Holding
mod Latest
mod GrowingLists
mod Moding
mod Noting
mod PlacePairs
mod Reading
mod Sharing
mod Storing
