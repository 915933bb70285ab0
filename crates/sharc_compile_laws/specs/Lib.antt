pub mod Laws
pub mod Names
pub mod Paths
pub mod Started
pub mod Threads
pub mod Typed
