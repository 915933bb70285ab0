pub mod Casts
pub mod Firsts
pub mod Givings
pub mod Laws
pub mod Repairs
