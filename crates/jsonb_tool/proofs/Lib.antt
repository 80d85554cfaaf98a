pub mod Checks
pub mod Determined
pub mod LeafLines
pub mod OutputLemmas
pub mod SelectionLemmas
