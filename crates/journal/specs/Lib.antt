-- What the contracts of the journal's calls cite beside crates `journal_model` and `journal_saving`.
pub mod Returning
pub mod Stages
