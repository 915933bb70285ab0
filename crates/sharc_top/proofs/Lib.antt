mod Imports
pub mod Building
pub mod Judging
pub mod Lines
pub mod Recording
pub mod Replies
pub mod Verdicts
