pub mod Instances
pub mod Sources
