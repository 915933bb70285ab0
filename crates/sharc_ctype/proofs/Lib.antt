mod Imports
pub mod AssignedLemmas
pub mod BitLemmas
pub mod CallLemmas
pub mod CastLemmas
pub mod ConstantLemmas
pub mod DeclaredLemmas
pub mod EntityLemmas
pub mod LimitLemmas
pub mod LocalLemmas
pub mod PlaceLemmas
pub mod ScopeLemmas
pub mod StatementLemmas
