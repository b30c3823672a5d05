-- 02, E11: "Drop what can never run." All that a reader has to believe of pruning, in the request's order: the states that are reached, the image with only
-- these, that the two run alike, for which crate `renumbering` has the words, and the call with its table of refusals.
pub mod Reached
pub mod Pruned
pub mod Runs
pub mod Calls
pub mod Rules
