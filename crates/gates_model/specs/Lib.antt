-- 02, E13: "Gate tables. A client holds his logic as NAND gates with trust marks." All that a reader has to believe of them, in the request's order. Every
-- definition here computes, but for the propositions of `Rules` and what is promised of runs (`Runs`).
pub mod Limits
pub mod Tables
pub mod Signals
pub mod Verdict
pub mod Cycle
pub mod Calls
pub mod Rules
pub mod Runs
