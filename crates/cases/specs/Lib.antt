-- What the contracts of the reader of records cite.
pub mod Rooms
pub mod Leaves
