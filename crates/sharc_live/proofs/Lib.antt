mod Imports
pub mod TurnLemmas
pub mod Warned
