pub mod Working
pub mod Marking
pub mod Seeking
pub mod Spots
pub mod Taking
pub mod Flat
pub mod Allots
