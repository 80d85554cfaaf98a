-- Proofs that the laws of impls cite, which therefore must be in specs/. Readers can ignore them: all are checked.
pub mod Orderings
pub mod NumberOrder
pub mod EqualTrees
pub mod Equality
