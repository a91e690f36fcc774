-- The definitions of this crate, in reading order.
pub mod Selection
pub mod Places
pub mod Runs
pub mod Taking
