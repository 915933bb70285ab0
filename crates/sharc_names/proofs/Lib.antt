mod Imports
pub mod FieldLemmas
pub mod FirstLemmas
pub mod StructLemmas
pub mod TableLemmas
