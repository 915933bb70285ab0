pub mod HeldLog
pub mod Laws
pub mod Waiters
