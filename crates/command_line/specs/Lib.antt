pub mod CommandLine
pub mod Faults
pub mod FinalDot
pub mod Line
pub mod MomentReading
pub mod Moments
pub mod OptionFault
pub mod Program
