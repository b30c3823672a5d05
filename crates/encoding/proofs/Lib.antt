-- Why the image of a design says what the design does, and the other way round (`RoundTrip`); then laws of the code.
pub mod Fields
pub mod Records
pub mod Sections
pub mod Directories
pub mod RoundTrip
pub mod Bytes
pub mod PartRules
pub mod WriterRules
