pub mod Numbers
pub mod Seeks
pub mod Marks
pub mod Scan
pub mod Scanning
pub mod Fields
pub mod Prologue
