mod BareLemmas
mod ByListenerLemmas
mod ComparedLemmas
pub mod CountLemmas
mod CountedLemmas
mod GroupLemmas
mod SecondsByCaptureLemmas
pub mod HtmlLemmas
mod KeptLemmas
pub mod LiveLemmas
pub mod LiveWordLemmas
mod MarkLemmas
mod SkippedLemmas
mod OneCaptureLemmas
mod OnePageLemmas
mod PartLemmas
mod PathLemmas
mod SameLists
mod ServedLemmas
mod ServerLemmas
mod ServiceLifeLemmas
mod SurveyLemmas
pub mod TickLemmas
mod TitleLemmas
