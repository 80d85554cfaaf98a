-- What the contracts of private functions say beyond the words of the others. No public clause cites these.
pub mod Lines
