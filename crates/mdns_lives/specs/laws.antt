pub mod Account
pub mod Flushes
pub mod Seconds
