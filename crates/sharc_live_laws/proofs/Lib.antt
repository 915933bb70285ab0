mod Imports
pub mod Along
pub mod Calls
pub mod Calm
pub mod Covering
pub mod Locals
pub mod Loops
pub mod Places
pub mod Silent
pub mod Statements
pub mod Values
pub mod Ways
