mod Imports
pub mod Lists
pub mod Algebra
pub mod Exact
pub mod Pieces
pub mod Codes
pub mod Laws
pub mod Steps
pub mod Summed
pub mod Told
pub mod Named
pub mod Found
pub mod Alike
pub mod Narrows
pub mod Halved
pub mod OrderLemmas
