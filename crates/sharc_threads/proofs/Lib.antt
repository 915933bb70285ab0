mod Imports
pub mod Beginning
pub mod Listing
pub mod Sitting
