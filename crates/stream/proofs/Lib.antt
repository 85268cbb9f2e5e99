pub mod Numbers
pub mod Sizes
pub mod Joins
pub mod Firsts
pub mod Keyed
pub mod Images
