-- Laws of the rules as the code tests them.
pub mod MaskRules
pub mod TableRules
pub mod ScopeRules
pub mod GotoRules
pub mod FlowRules
pub mod FlowKinds
pub mod FaultRules
