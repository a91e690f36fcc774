-- The laws and theorems of this crate, in reading order.
pub mod Edges
pub mod Printed
pub mod Rising
pub mod Heads
pub mod Accepted
pub mod Written
pub mod Longest
pub mod Cursor
pub mod Unambiguous
pub mod JudgedBy
pub mod Keepless
pub mod Unsigned
pub mod Signless
pub mod Lowest
pub mod MeetsBoth
pub mod WideFirst
