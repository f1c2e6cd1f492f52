pub mod Answering
mod AsciiFronts
pub mod Begun
mod Blanks
pub mod Characters
pub mod Closing
pub mod Comments
pub mod Endings
pub mod FrontKinds
pub mod Leaving
pub mod OneGrouping
pub mod OneOutcome
pub mod Reaching
pub mod SomeGrouping
pub mod SomeOutcome
pub mod Spelled
pub mod Standing
pub mod StringSpelled
pub mod Tiling
pub mod TokenBytes
pub mod Trees
pub mod Underway
pub mod Unfinished
