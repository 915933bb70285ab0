mod Imports
pub mod Walks
pub mod Readings
pub mod Lines
pub mod Numbers
pub mod Makes
pub mod Arms
pub mod Spellings
pub mod Bounding
