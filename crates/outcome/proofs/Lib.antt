pub mod Outcome
pub mod Silent
