-- Definitions for bytes that may not decode, which clauses for any bytes cite.
pub mod Roots
