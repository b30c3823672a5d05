-- Laws of what is judged of areas and of what a run leaves.
pub mod RunningRules
