-- Laws that tie the accessors and the directory to the meaning, and of words and reset. The crates above cite them.
pub mod Laws
pub mod FieldRules
pub mod PartRules
pub mod StateRules
pub mod ShiftRules
pub mod WordRules
pub mod WidthRules
pub mod ResetRules
pub mod LabelRules
pub mod RowRules
pub mod ScopeRules
pub mod BoundRules
