-- Laws of the texts that this crate puts to a buffer, and of what a listing starts from.
pub mod TextRules
pub mod DecimalRules
pub mod ListingRules
pub mod LineRules
pub mod PlaceRules
pub mod StartRules
