-- The image of a design: 01's section 'The image' read the other way. `design_of` says what an image's records are; `image_of` says which bytes records have, and
-- `Encodable` of which designs that can be said. What the contracts of the writers cite beside it stands last.
pub mod Encoding
pub mod Encodable
pub mod Parts
pub mod Writers
