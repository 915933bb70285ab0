pub mod Writing
pub mod Cut
pub mod EventFileLaws
pub mod Replies
