-- The definitions of this crate, in reading order.
pub mod Expansion
pub mod Control
pub mod Signs
pub mod Cascade
pub mod Spares
pub mod Touching
pub mod LineSets
