use Rattle.filing_steps.proofs.LoopRules.{bodies_begin, body_ordering, bodies_next, bodies_done, bodies_whole}
use borrow.Author.Rules.{rules}
use Rattle.filing_steps.proofs.ordering.order_commands.Goals as goal

pub loop-s-init : goal.loop-s-init
loop-s-init c = search (bodies_begin, rules)

pub order_command-k-requires : goal.order_command-k-requires
order_command-k-requires c = search body_ordering

pub loop-s-preserved : goal.loop-s-preserved
loop-s-preserved c = search (bodies_next, rules)

pub returns : goal.returns
returns c = (search (bodies_whole, rules), search (bodies_done, rules))
