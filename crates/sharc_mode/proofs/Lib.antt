mod Imports
pub mod ArgumentLemmas
pub mod CellLemmas
pub mod LawLemmas
pub mod LeastLemmas
pub mod MemberLemmas
pub mod PairLemmas
pub mod RowLemmas
pub mod SameLemmas
pub mod ShownLemmas
pub mod WithinLemmas
