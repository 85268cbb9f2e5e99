pub mod Nibblize
pub mod Pieces
pub mod Layouts
pub mod Claims
