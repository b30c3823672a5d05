-- Laws of the passes one after the other.
pub mod StageRules
pub mod Accepted
pub mod OwnLabels
