use Rattle.filing_steps.proofs.ValueRules.{value_ordering, value_put, no_value_put}
use Rattle.filing_steps.proofs.ordering.order_value.Goals as goal

pub order_expression-requires : goal.order_expression-requires
order_expression-requires c = search value_ordering

pub returns-in-1 : goal.returns-in-1
returns-in-1 c = search value_put

pub returns-in_default : goal.returns-in_default
returns-in_default c = search no_value_put
