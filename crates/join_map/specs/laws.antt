pub mod Entries
pub mod Join
