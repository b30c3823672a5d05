-- Designs under new numbers, which 02's E11 (some states and nodes go) and E12 (nodes in another order) share: records, trees, what it is for one design to be another under new
-- numbers, and what it is for two images to run alike.
pub mod Renumbering
pub mod Renumbers
pub mod Runs
