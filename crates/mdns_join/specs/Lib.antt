pub mod FlushWalk
pub mod Kept
pub mod laws
pub mod Latest
pub mod MomentList
pub mod Nanos
