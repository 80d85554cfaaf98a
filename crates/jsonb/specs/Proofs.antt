-- Proofs that laws of impls cite, and which therefore must be in specs/. Readers can ignore them: all are checked.
pub mod PathOrder
pub mod SameParts
pub mod SamePath
