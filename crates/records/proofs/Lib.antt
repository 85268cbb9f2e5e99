pub mod Entries
pub mod Page
pub mod Answers
pub mod Back
pub mod Written
