-- Laws of the rules as the code tests them.
pub mod PlaceRules
pub mod ShapeRules
