-- 02, E10: "Replay of a port trace." All that a reader has to believe of it, in the request's order: traces, the call, its table of refusals, and the
-- same by hand. What a party sees of it is in crate `lists_model`.
pub mod Traces
pub mod Calls
pub mod Rules
pub mod ByHand
