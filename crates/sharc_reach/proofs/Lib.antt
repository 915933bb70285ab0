mod Imports
pub mod FirstLemmas
pub mod MemberLemmas
pub mod NameLemmas
pub mod OwnerLemmas
pub mod PathLemmas
pub mod RunLemmas
pub mod TreeLemmas
