pub mod Joined
pub mod Decided
pub mod Outlines
