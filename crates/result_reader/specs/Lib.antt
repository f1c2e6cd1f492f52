pub mod Fit
pub mod Laws
pub mod Names
pub mod Reading
