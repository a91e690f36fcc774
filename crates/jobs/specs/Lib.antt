-- The definitions of this crate, in reading order.
pub mod Jobs
pub mod Habits
pub mod Handing
