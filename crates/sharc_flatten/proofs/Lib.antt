mod Imports
pub mod BodyLemmas
pub mod ExpressionLemmas
pub mod FirstPlaces
pub mod ScopeLemmas
pub mod StatementLemmas
pub mod StructLemmas
pub mod WalkLemmas
pub mod GlobalLemmas
pub mod LayoutLemmas
pub mod LineLemmas
pub mod ListLemmas
pub mod PlaceLemmas
pub mod RowLemmas
