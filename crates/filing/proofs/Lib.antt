pub mod Filed
pub mod Writing
