use borrow.Author.Rules.{rules}
use Rattle.machine.proofs.CycleRules.{run_begins, run_room, run_more, run_done}
use Rattle.machine.proofs.cycle.cycles.Goals as goal

pub loop-i-init : goal.loop-i-init
loop-i-init c = search (run_begins, rules)

pub cycle-requires : goal.cycle-requires
cycle-requires c = search (run_room, rules)

pub loop-i-preserved : goal.loop-i-preserved
loop-i-preserved c = search (run_more, rules)

pub returns : goal.returns
returns c = record { area_after = search (run_done, rules); running = search rules }
