pub mod Words
pub mod History
pub mod Place
pub mod Laws
