pub mod Tidied
pub mod Names
pub mod Pass
pub mod Looks
pub mod Freeing
pub mod Calls
pub mod Calling
pub mod Serving
