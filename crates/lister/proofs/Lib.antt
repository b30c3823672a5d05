-- Laws of the program's buffers and of its loop.
pub mod Buffers
pub mod ListRules
pub mod Output
pub mod PieceRules
pub mod Prefix
