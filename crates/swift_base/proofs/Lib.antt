pub mod Writing
pub mod LastLine
