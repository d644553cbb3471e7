pub mod LiveSheet
