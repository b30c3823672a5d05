-- Laws of this crate.
pub mod ByteRules
pub mod JoinRules
pub mod MaskRules
pub mod PassRules
pub mod CommandRules
pub mod AgreeRules
pub mod StateRules
pub mod StageRules
