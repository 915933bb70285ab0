mod Imports
pub mod Aims
pub mod ByTurns
pub mod Failing
pub mod Idling
pub mod Keeps
pub mod Merged
pub mod Moving
pub mod Opened
pub mod Outcomes
pub mod Paths
pub mod Places
pub mod Ranging
pub mod Settled
pub mod Standing
pub mod Tells
pub mod Touching
pub mod Trying
