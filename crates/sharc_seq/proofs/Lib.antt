mod Imports
pub mod Choosing
pub mod Grown
pub mod Made
pub mod Telling
pub mod Quiets
pub mod Quieting
pub mod Rowing
