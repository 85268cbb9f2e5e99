pub mod Told
pub mod Numbers
pub mod Sides
