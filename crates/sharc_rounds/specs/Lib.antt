pub mod Round
pub mod Laws
pub mod Run
pub mod Pace
pub mod Shares
