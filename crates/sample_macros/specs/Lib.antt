pub mod OneReply
pub mod Samples
pub mod Shapes
pub mod Use
