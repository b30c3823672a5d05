-- Laws of what the calls leave.
pub mod LeavesRules
-- A buffer and a part of it.
pub mod Buffers
