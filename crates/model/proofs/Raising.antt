-- 02, E6: the least raising of an image. `Orders`, `Passes`, `Least` and `Settled` are about labellings of a design, `Images`, `Theorem` and `Calls` about images.
pub mod Orders
pub mod Passes
pub mod Least
pub mod Settled
pub mod Images
pub mod Theorem
pub mod Calls
