pub mod Flows
pub mod Gathers
pub mod Turns
pub mod Uses
