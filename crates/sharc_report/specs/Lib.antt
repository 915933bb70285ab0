pub mod Explanations
pub mod Places
pub mod Refusals
pub mod Verdicts
