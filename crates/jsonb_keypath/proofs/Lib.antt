pub mod Common
mod Rows
pub mod TextLemmas
pub mod RepeatLemmas
mod NumberLemmas
pub mod ShowLemmas
pub mod ReadsLemmas
pub mod CutLemmas
pub mod GrowsLemmas
pub mod FrontLemmas
pub mod ReadBackLemmas
pub mod NameLemmas
pub mod YieldsLemmas
pub mod KeyPathReadsBack
pub mod PlainReadsBack
pub mod EqualLemmas
