-- Every run from reset is the same under new numbers, since no step breaks that the areas are: the body of a state that stays (`Execution`, `Areas`), reset and a goto (`Gotos`), a cycle
-- (`Cycles`), a call on areas that are good (`Calls`), and so whole lists of calls (`Lists`).
pub mod Execution
pub mod Areas
pub mod Gotos
pub mod Cycles
pub mod Calls
pub mod Lists
