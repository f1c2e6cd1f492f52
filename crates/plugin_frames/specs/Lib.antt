pub mod Frames
pub mod Cutting
pub mod Feeding
pub mod Holding
pub mod Laws
