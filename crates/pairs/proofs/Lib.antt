pub mod Answers
pub mod Storing
