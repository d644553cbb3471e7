pub mod JsonPieces
pub mod ColumnPieces
pub mod Sheet
