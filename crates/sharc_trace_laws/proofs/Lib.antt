mod Imports
pub mod Pieces
pub mod Grammar
pub mod Files
pub mod Events
pub mod Faultless
pub mod Recorded
