mod Imports
pub mod CallLemmas
pub mod FirstLemmas
pub mod LawLemmas
pub mod RowLemmas
pub mod ScopeLemmas
