-- The verdict from each pass on, and the tables of the nodes.
pub mod Stages
pub mod Nodes
