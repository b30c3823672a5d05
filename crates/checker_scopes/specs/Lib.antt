-- What the pass of refusal 19 says of a node: the meaning's rules, in the form in which the recursion over parts carries them. And what a plain design is.
pub mod Scoping
pub mod Plain
