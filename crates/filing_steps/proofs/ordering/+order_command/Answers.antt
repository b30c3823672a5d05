use Rattle.design.proofs.FieldRules.{sequence_a_falls, sequence_b_falls, branch_b_falls, branch_c_falls}
use Rattle.filing_steps.proofs.OrderingRules.{sequence_first, sequence_second, sequence_room, sequence_put, branch_first, branch_second, branch_room, branch_put, simple_room, simple_put, command_small}
use Rattle.filing_steps.proofs.ordering.+order_command.Goals as goal

pub order_command-second-requires : goal.order_command-second-requires
order_command-second-requires t c = (search sequence_a_falls, search sequence_first)

pub order_command-whole-requires : goal.order_command-whole-requires
order_command-whole-requires t c = (search sequence_b_falls, search sequence_second)

pub place-requires : goal.place-requires
place-requires t c = (search sequence_room, search command_small)

pub order_command-second-requires-in-5 : goal.order_command-second-requires-in-5
order_command-second-requires-in-5 t c = (search branch_b_falls, search branch_first)

pub order_command-whole-requires-in-5 : goal.order_command-whole-requires-in-5
order_command-whole-requires-in-5 t c = (search branch_c_falls, search branch_second)

pub place-requires-in-5 : goal.place-requires-in-5
place-requires-in-5 t c = (search branch_room, search command_small)

pub place-requires-in_default : goal.place-requires-in_default
place-requires-in_default t c = (search simple_room, search command_small)

pub returns-in-2 : goal.returns-in-2
returns-in-2 t c = search sequence_put

pub returns-in-5 : goal.returns-in-5
returns-in-5 t c = search branch_put

pub returns-in_default : goal.returns-in_default
returns-in_default t c = search simple_put
