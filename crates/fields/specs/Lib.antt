pub mod Editions
pub mod Search
pub mod Fields
pub mod Scan
