-- Laws of the steps of filing.
pub mod OrderingRules
pub mod ValueRules
pub mod LoopRules
pub mod NumberingRules
pub mod FieldRules
pub mod ByteRules
