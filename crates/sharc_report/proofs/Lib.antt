mod Imports
pub mod OwnerLemmas
pub mod TextLemmas
