-- What the proofs of a replay share: how the first records are judged, how they are applied, and what the whole comes to.
pub mod AnswerRules
pub mod PreparingRules
pub mod PortRules
pub mod CountRules
pub mod JudgingRules
pub mod RecordRules
pub mod ReplayingRules
pub mod StepRules
