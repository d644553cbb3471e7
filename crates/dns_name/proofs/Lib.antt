pub mod FormLemmas
pub mod FrontLemmas
pub mod NameFaultLemmas
pub mod NameLemmas
pub mod NameOutcomeLemmas
pub mod PointerLemmas
pub mod ReadNameLemmas
