use Prim.Native.Nat.{◌≤◌}
use native.Mathlib.Omega.{arith}
use Rattle.filing_steps.proofs.LoopRules.{values_begin, commands_begin, entry_command, value_room, values_next, values_done, values_whole}
use borrow.Author.Rules.{rules}
use Rattle.filing_steps.proofs.ordering.order_expressions.Goals as goal

pub loop-n-init : goal.loop-n-init
loop-n-init c = search (values_begin, rules)

pub slice_bounds-n-items-end : goal.slice_bounds-n-items-end
slice_bounds-n-items-end c = search (commands_begin, rules)

pub order_value-k-requires : goal.order_value-k-requires
order_value-k-requires c = search (entry_command, value_room, rules)

pub loop-n-preserved : goal.loop-n-preserved
loop-n-preserved c = search (values_next, rules)

pub returns : goal.returns
returns c =
    let all : c.args.image.now.design.commands ≤ c.loop-n.n-index = omega (arith, commands_begin c.requires.0 c.requires.1) in
    (search (values_whole, rules), search (values_done, rules))
