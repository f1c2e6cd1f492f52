pub mod Roles
pub mod Steps
pub mod Names
pub mod Unique
pub mod Laws
pub mod UniqueLaws
