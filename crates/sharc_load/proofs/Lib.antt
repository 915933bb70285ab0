mod Imports
pub mod Text
