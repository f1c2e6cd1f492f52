pub mod Numerals
pub mod Prefix
pub mod Laws
pub mod Texts
pub mod Made
