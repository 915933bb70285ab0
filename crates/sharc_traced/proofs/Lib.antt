pub mod Matching
pub mod Cutting
pub mod Listing
pub mod Filing
pub mod Replying
pub mod Calling
