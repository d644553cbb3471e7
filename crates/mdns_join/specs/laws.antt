pub mod Kept
pub mod Latest
