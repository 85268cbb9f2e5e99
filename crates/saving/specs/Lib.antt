pub mod Saving
pub mod Steps
pub mod Askers
pub mod Serving
