mod AboutLemmas
mod ColumnLemmas
mod CsvLemmas
mod DigitLemmas
mod EndLemmas
mod HostLemmas
mod InstanceColumnLemmas
mod InstanceLemmas
mod JsonLemmas
mod LayoutLemmas
mod LineLemmas
mod NameLemmas
mod ObjectLemmas
mod ReachLemmas
mod ReportLemmas
pub mod RowLemmas
mod SaidLemmas
pub mod SearchLemmas
mod ServiceLifeLemmas
mod ShownLemmas
mod TextLemmas
