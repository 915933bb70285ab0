pub mod TextLaws
pub mod Others
pub mod Places
pub mod RunText
pub mod Laws
pub mod Outcome
pub mod Run
