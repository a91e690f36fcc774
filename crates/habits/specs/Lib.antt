-- The definitions of this crate, in reading order.
pub mod Habits
pub mod Demands
