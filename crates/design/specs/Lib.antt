-- What the contracts of this crate and of those above it cite: a record by the place of its section, when a `Design` describes an image, its records keep their rules, and one
-- stands at a place, a register area with one word written, what reset writes, a table of labels, which states hold a fall, and the parameters in scope of
-- each state.
pub mod Records
pub mod Describes
pub mod Kept
pub mod RecordsAt
pub mod Words
pub mod Resets
pub mod Labels
pub mod Falls
pub mod Scopes
pub mod Images
