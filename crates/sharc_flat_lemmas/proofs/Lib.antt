pub mod Flow
pub mod Functions
pub mod Laid
