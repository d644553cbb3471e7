pub mod CalendarLemmas
pub mod NoncharacterLemmas
pub mod ScalarLemmas
pub mod ShownLemmas
pub mod VisibleLemmas
