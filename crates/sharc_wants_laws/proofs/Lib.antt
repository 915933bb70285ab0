mod Imports
mod Calls
mod Counts
mod Expressions
mod Held
mod Runs
mod Statements
mod Steps
mod Taken
mod Typed
pub mod Alone
pub mod Beginning
pub mod Cause
pub mod Cells
pub mod Coming
pub mod Copying
pub mod Counting
pub mod Elsewhere
pub mod Emptying
pub mod Entered
pub mod Followed
pub mod Freed
pub mod Given
pub mod Holders
pub mod Holding
pub mod Keeping
pub mod Nowhere
pub mod Only
pub mod Referred
pub mod Registering
pub mod Seeing
pub mod Silent
pub mod SoleCells
pub mod SoleTelling
pub mod Tables
pub mod Telling
pub mod Testing
pub mod Wanting
