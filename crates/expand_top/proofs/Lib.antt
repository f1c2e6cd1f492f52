pub mod Times
pub mod Promises
pub mod Found
pub mod Files
pub mod Ways
pub mod Rounds
pub mod Counts
