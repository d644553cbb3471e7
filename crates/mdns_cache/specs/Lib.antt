pub mod Contents
pub mod Live
pub mod Plan
pub mod LentRecords
pub mod Equal
pub mod Gathering
pub mod Repeats
pub mod laws
