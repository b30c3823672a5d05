-- Laws of the targets of states, of bindings, of bodies, and of cycles.
pub mod TargetRules
pub mod BindingRules
pub mod FreeRules
pub mod BodyRules
pub mod CycleRules
pub mod TableRules
