pub mod HearerAndMessagesLemmas
pub mod BlankLemmas
mod GroupLemmas
pub mod HeardLemmas
pub mod HeldNameLemmas
pub mod KeptLemmas
pub mod LawLemmas
mod ListLemmas
pub mod ListedNameLemmas
pub mod ListenersLemmas
mod MarkLemmas
mod MemberLemmas
pub mod NameLawLemmas
mod NumberLemmas
mod PairLemmas
pub mod RowLemmas
mod SenderLemmas
mod SortLemmas
mod SheetLemmas
mod TableLemmas
mod TextLemmas
mod WarnedLemmas
mod Worked
mod WorkedRows
