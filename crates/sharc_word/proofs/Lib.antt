pub mod Histories
pub mod Leading
