-- Laws of the journal's calls.
pub mod StageRules
pub mod StepRules
pub mod ImageRules
