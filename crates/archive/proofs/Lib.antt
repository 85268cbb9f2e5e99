pub mod Archive
pub mod Back
pub mod Blocks
pub mod Making
pub mod Reader
pub mod Returns
pub mod Steps
