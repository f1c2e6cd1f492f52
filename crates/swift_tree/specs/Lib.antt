pub mod Further
pub mod Outlines
