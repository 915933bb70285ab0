mod Imports
pub mod CoverLemmas
pub mod FileLemmas
pub mod LexemeLemmas
pub mod LineLemmas
pub mod LongestLemmas
pub mod NumberLemmas
pub mod PlaceLemmas
pub mod PunctuatorLemmas
pub mod ReadingLemmas
pub mod TokensLemmas
pub mod WithinLemmas
pub mod WordLemmas
