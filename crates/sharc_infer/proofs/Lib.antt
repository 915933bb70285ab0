mod Imports
pub mod AssignLemmas
pub mod LinkLemmas
pub mod PositionLemmas
pub mod RootLemmas
