-- Laws that the proofs of the functions cite.
pub mod Laws
pub mod VerdictRules
pub mod NandRules
pub mod WireRules
pub mod AreaRules
pub mod StageRules
