-- Cases that each hold one sentence of 02's E11 in place. `tests/definitions` has the wrong definitions that they refuse.
pub mod Reaching
pub mod Images
pub mod Calls
pub mod FarEnds
