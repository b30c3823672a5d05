-- Laws of the calls that file.
pub mod TableRules
pub mod WritingRules
pub mod ComparingRules
pub mod StageRules
