pub mod Address
pub mod Calendar
pub mod MomentText
pub mod Shown
