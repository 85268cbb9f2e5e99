pub mod Stream
pub mod Steps
