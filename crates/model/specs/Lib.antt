-- All that a reader has to believe, in the order of document 01, as document 02 changes it. Every definition here computes, but for
-- the propositions of `Rules`, `Standing` and `Refusals`, and what is promised of ports (`Ports`), of rounding (`Rounding`), of
-- parties (`Parties` and `Neighbours`, demand 3) and of raisings (`Raising`).
-- 'The image'
pub mod Limits
pub mod Indices
pub mod Image
pub mod Lattice
pub mod States
pub mod Kinds
pub mod Trees
pub mod Nodes
pub mod Labelling
pub mod Parameters
-- 'Shape and flow'
pub mod Shape
pub mod Scopes
pub mod Ports
pub mod Falls
pub mod Flow
-- 'A cycle'
pub mod Signed
pub mod Rounding
pub mod Values
pub mod Bindings
pub mod Machine
-- 'What a party sees'
pub mod Parties
pub mod Neighbours
-- 'When the box says no'
pub mod Answers
pub mod Rules
pub mod Standing
pub mod Verdict
pub mod Calls
pub mod Raising
pub mod Refusals
-- 'The lease design'
pub mod Listing
