-- Laws of pruning.
pub mod WritingRules
pub mod StageRules
