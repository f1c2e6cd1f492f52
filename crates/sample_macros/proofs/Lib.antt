pub mod Arguments
pub mod Literals
pub mod Pieces
