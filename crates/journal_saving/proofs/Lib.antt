-- Laws of the journal's bytes.
pub mod ByteRules
pub mod RoomRules
pub mod JournalRules
pub mod SavingRules
