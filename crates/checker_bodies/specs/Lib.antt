-- What the pass of refusal 8 says of a command: the meaning's rules, in the form in which the recursion over parts carries them.
pub mod Places
pub mod Shapes
