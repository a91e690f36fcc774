-- The laws and theorems of this crate, in reading order.
pub mod Whole
pub mod Mixing
pub mod Flips
pub mod Patterns
pub mod Runs
pub mod SameMatrix
pub mod Links
pub mod Lines
pub mod Starts
pub mod Examples
