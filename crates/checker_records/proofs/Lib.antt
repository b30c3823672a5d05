-- Laws of the rules as the code tests them.
pub mod Subsets
pub mod LatticeRules
pub mod BoundRules
pub mod RecordRules
pub mod ParameterRules
