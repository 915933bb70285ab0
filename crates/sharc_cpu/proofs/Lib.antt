mod Imports
pub mod Advancing
pub mod Begun
pub mod Doubling
pub mod Held
pub mod Joined
pub mod Leaps
pub mod Paths
pub mod Planned
pub mod Rare
pub mod RowTurns
pub mod Settling
pub mod TwoTurns
pub mod OnPath
pub mod Turned
