pub mod Choice
pub mod Run
pub mod Told
pub mod Quiet
pub mod Walk
pub mod Table
pub mod Laws
