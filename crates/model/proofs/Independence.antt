-- The independence of parties: demand 3, proved about the definitions.
pub mod Relation
pub mod Instances
pub mod Labels
pub mod Endings
pub mod Unnumbered
pub mod Agreement
pub mod Commands
pub mod Widths
pub mod Path
pub mod Rising
pub mod Enough
pub mod Cycle
pub mod Common
pub mod Runs
pub mod Calls
pub mod Lists
pub mod Theorem
