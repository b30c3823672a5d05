-- Cases at the boundaries of 02's sentences on E12.
pub mod Forms
pub mod Same
pub mod Renumbered
pub mod Order
pub mod Calls
pub mod FarEnds
