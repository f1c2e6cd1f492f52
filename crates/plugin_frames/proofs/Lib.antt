pub mod Beginnings
pub mod Cuts
pub mod Feedings
pub mod Readings
