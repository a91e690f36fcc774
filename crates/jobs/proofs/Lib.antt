-- The laws and theorems of this crate, in reading order.
pub mod Habits
pub mod One
pub mod Handed
pub mod InText
