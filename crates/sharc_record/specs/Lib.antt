pub mod Room
pub mod Rule
pub mod Shared
pub mod Table
pub mod Round
pub mod Run
pub mod Laws
