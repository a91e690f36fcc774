-- The laws and theorems of this crate, in reading order.
pub mod Demands
pub mod Numbers
pub mod Quoting
pub mod Before
pub mod JudgedBy
pub mod Signless
pub mod Lowest
pub mod Renumbered
pub mod WideFirst
pub mod Keepless
pub mod Placement
pub mod Table
