pub mod Deciding
pub mod Judged
pub mod Laws
pub mod Kept
pub mod Latest
pub mod Reads
pub mod Topics
pub mod Starting
