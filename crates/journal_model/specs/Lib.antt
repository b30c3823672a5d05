-- 02, E9: "Stepping back." All that a reader has to believe of journals, in the request's order: saved states and their bytes, the two calls, and their tables of
-- refusals. Lists of calls with journals, and what a party sees of them, are in crate `lists_model`.
pub mod Journals
pub mod Calls
pub mod Rules
