-- What the contracts of this crate cite: the call of `Rattle.filing_model.specs.Calls` from the point where the image is accepted on.
pub mod Stages
