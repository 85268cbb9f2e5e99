pub mod Holders
pub mod Claims
pub mod Tally
