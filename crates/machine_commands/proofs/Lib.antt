-- Laws of the signed operations, of the values of expressions, and of the effects of commands.
pub mod SignedRules
pub mod EvaluateRules
pub mod ExecuteRules
