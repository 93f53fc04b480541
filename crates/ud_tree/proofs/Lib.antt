pub mod PathLemmas
pub mod StreamLemmas
pub mod SummaryLemmas
pub mod VisibleLemmas
pub mod ReportLemmas
pub mod MessageLemmas
pub mod WalkLemmas
pub mod WalkTellLemmas
pub mod ChoiceLemmas
pub mod ScopeLemmas
pub mod UnmatchedLemmas
pub mod MarkLemmas
pub mod CoverLemmas
pub mod LookLemmas
pub mod StepLemmas
pub mod DoneLemmas
pub mod TruthLemmas
pub mod TreeLaws
pub mod StatusLaws
pub mod OtherLemmas
pub mod RunLemmas
mod ShownLemmas
pub mod PickLemmas
pub mod RemainderLemmas
pub mod SymbolLemmas
pub mod KeepLemmas
mod PatternSetLemmas
mod PatternPartLemmas
mod PatternPlaceLemmas
pub mod MeetingLemmas
pub mod ReadingLemmas
pub mod EvidenceLemmas
pub mod SamplingLemmas
pub mod NamedLemmas
pub mod EarlyLemmas
pub mod LineLemmas
