-- Cases at the boundaries of 02's E9: each holds one number, limit or order in place, from both sides.
pub mod Rooms
pub mod Steps
pub mod Unsound
pub mod FarEnds
