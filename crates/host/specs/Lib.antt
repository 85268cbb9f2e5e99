pub mod Exports
pub mod Sides
