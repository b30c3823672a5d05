use Rattle.filing_steps.proofs.OrderingRules.{operand_first, first_falls, second_falls, operand_second, operation_room, operation_put, leaf_room, leaf_put, expression_small, no_kind}
use Rattle.filing_steps.proofs.ordering.+order_expression.Goals as goal

pub place-requires : goal.place-requires
place-requires t c = (search leaf_room, search expression_small)

pub order_expression-second-requires : goal.order_expression-second-requires
order_expression-second-requires t c = (search first_falls, search operand_first)

pub order_expression-whole-requires : goal.order_expression-whole-requires
order_expression-whole-requires t c = (search second_falls, search operand_second)

pub place-requires-in-2-to-11 : goal.place-requires-in-2-to-11
place-requires-in-2-to-11 t c = (search operation_room, search expression_small)

pub place-requires-in_default : goal.place-requires-in_default
place-requires-in_default t c = search no_kind

pub returns-in-0 : goal.returns-in-0
returns-in-0 t c = search leaf_put

pub returns-in-2-to-11 : goal.returns-in-2-to-11
returns-in-2-to-11 t c = search operation_put

pub returns-in_default : goal.returns-in_default
returns-in_default t c = search no_kind
