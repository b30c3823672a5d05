-- Laws of the tables that the passes fill, and of the rules as the code tests them.
pub mod NodeRules
pub mod DepthRules
pub mod CountRules
pub mod UseRules
pub mod PortRules
