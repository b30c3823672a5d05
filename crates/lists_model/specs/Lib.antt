-- Lists of the six calls that change areas: what they do, what remains of them at a level, what a party sees, and the tables of refusals.
pub mod Lists
pub mod Demands
pub mod Rules
