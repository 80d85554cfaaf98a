pub mod Paths
pub mod Rows
pub mod Names
pub mod NameSets
pub mod MakingLemmas
pub mod ObjectRows
pub mod LeafRows
pub mod KeyRows
pub mod LooseValues
pub mod HandleValues
pub mod PreparedLemmas
pub mod BuilderLemmas
pub mod ItemLemmas
pub mod LimitLemmas
mod SpanLemmas
mod StatusNames
mod KindLemmas
mod WithinLemmas
mod FirstSpans
