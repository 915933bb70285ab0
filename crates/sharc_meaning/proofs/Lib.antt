mod Imports
mod Asking
mod Closed
mod Counting
mod Extending
mod Freeing
mod Going
mod Growing
mod Last
mod Legal
mod Obeying
mod Resting
mod Running
mod Settled
mod Spending
pub mod Moded
