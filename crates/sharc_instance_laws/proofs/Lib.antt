mod Imports
pub mod Alone
pub mod Asked
pub mod Building
pub mod Built
pub mod Front
pub mod Going
pub mod Guarded
pub mod Laying
pub mod Locking
pub mod Numbers
pub mod SharedFront
pub mod Sharing
pub mod Spelling
pub mod Stopping
pub mod Testing
pub mod Touching
