pub mod Blocks
pub mod Entries
pub mod laws
pub mod Join
