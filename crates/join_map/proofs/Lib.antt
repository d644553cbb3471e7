pub mod BlockLemmas
pub mod GatherLemmas
pub mod KeyLemmas
pub mod OrderLemmas
pub mod PlaceLemmas
pub mod PutLemmas
pub mod SpotLemmas
pub mod WalkLemmas
