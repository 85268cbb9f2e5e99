pub mod Sectors
pub mod PercentOf
pub mod Percent
pub mod Numbers
pub mod Places
pub mod Chain
pub mod Steps
