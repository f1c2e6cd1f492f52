pub mod Texts
pub mod Counts
pub mod Replying
pub mod Reaching
pub mod Payloads
