pub mod Duplicating
pub mod Gaps
pub mod Sectors
pub mod Unrolls
pub mod Written
pub mod Writing
