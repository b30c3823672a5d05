-- Cases at the boundaries of lists of all calls: what remains of them, what a party sees, and why each condition is there.
pub mod Lists
pub mod Elsewhere
pub mod Replays
pub mod Neighbours
