-- 02, E12: "An order over designs." All that a reader has to believe of filing, in the request's order: the filing form, what it is to differ at most in node numbers, the order
-- of the forms, the two calls, and the table of refusals.
pub mod Filed
pub mod Same
pub mod Order
pub mod Calls
pub mod Rules
