pub mod Bus
pub mod Rule
pub mod Table
