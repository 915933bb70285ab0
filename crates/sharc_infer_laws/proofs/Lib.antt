mod Imports
pub mod Findings
pub mod Least
pub mod Locks
pub mod Numbers
pub mod Owners
pub mod Roots
pub mod Types
