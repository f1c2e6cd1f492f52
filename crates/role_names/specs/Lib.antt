pub mod Covered
pub mod Decided
pub mod DeclaredNames
