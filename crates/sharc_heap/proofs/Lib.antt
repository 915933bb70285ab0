mod Imports
pub mod Aims
pub mod Handing
pub mod Least
pub mod OneTurn
pub mod Steps
pub mod Tops
pub mod Turns
pub mod Computed
pub mod Conflict
pub mod Lowest
pub mod OneBit
pub mod Sets
pub mod Table
pub mod Counts
