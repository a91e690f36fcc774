-- The laws and theorems of this crate, in reading order.
pub mod Prints
pub mod Before
pub mod JudgedBy
pub mod Examples
pub mod Numbers
pub mod Told
