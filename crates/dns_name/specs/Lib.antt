pub mod FirstFault
pub mod Name
pub mod NameAt
pub mod Pointer
