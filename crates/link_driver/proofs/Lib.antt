pub mod Written
pub mod Waiting
pub mod Turns
pub mod Runs
pub mod Replied
pub mod Tables
pub mod Wanted
pub mod Kept
