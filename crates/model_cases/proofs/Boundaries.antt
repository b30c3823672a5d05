-- Cases that each hold one sentence of document 01 or 02 in place: at its boundary the definition gives what the sentence says, and a definition that is off by
-- one, or leaves a part out, does not. They are named for what they show. `tests/definitions` has the wrong definitions that they refuse.
pub mod Images
pub mod Lattices
pub mod Records
pub mod Nodes
pub mod Depths
pub mod Bodies
pub mod Ports
pub mod Falls
pub mod Parameters
pub mod Arguments
pub mod Choices
pub mod Widths
pub mod Flows
pub mod Raising
pub mod Cycles
pub mod Bindings
pub mod Unsound
pub mod Signed
pub mod Calls
pub mod Lists
pub mod Views
pub mod Neighbours
pub mod Listings
pub mod FarEnds
pub mod FarRuns
pub mod Orders
