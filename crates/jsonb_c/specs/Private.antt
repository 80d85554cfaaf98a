-- Definitions that only contracts of private functions use. No public clause cites them.
pub mod Boxes
pub mod Buffers
pub mod LeafColumns
pub mod NameColumns
pub mod Views
pub mod Events
pub mod Numbers
