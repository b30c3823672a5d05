-- Laws of the rules as the code tests them.
pub mod ArgumentRules
pub mod ScopeRules
pub mod PlainRules
