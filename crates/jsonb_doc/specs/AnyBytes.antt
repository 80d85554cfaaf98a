-- Definitions for bytes that may not decode. Clauses that hold for any bytes cite them, and two clauses that name the
-- item which `push_document` adds; for documents that decode, the other clauses state the results.
pub mod Unsupported
pub mod Parts
pub mod Items
pub mod Roots
pub mod Iterators
pub mod Spots
pub mod Events
