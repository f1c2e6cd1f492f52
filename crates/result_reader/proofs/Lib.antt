pub mod Heads
mod Kept
mod Decided
