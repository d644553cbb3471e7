pub mod DequeLemmas
pub mod FlushWalkLemmas
pub mod LateLemmas
pub mod MomentLemmas
pub mod OrderLemmas
pub mod RefusedLemmas
