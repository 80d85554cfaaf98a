pub mod Requests
pub mod Answers
pub mod Output
pub mod Problems
pub mod Private
