pub mod Quantum
pub mod Rare
pub mod Rows
pub mod Shifts
pub mod Thread
pub mod View
