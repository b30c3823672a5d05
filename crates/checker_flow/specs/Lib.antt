-- What the flow pass says of a node: the meaning's rules, in the form in which the recursion over parts carries them, by masks of label bytes.
pub mod Masks
pub mod Flows
