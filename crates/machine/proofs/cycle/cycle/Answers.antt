use borrow.Author.Rules.{rules}
use Rattle.machine.proofs.CycleRules.{cycling_begins, cycling_fits, cycling_entered, cycling_target, cycling_stops, stops_running, cycling_goes, goes_running, cycling_falls, cycling_full, full_running}
use Rattle.machine.proofs.cycle.cycle.Goals as goal

pub loop-n-init : goal.loop-n-init
loop-n-init c = search (cycling_begins, rules)

pub overflow_cast-walk : goal.overflow_cast-walk
overflow_cast-walk c = search (cycling_fits, rules)

pub body-outcome-requires : goal.body-outcome-requires
body-outcome-requires c = search cycling_entered

pub returns-in_default : goal.returns-in_default
returns-in_default c = record { cycled = search (cycling_stops, rules); running = search (stops_running, rules) }

pub returns-in-Goto : goal.returns-in-Goto
returns-in-Goto c = record { cycled = search (cycling_goes, rules); running = search (goes_running, rules) }

pub bounds-area-s : goal.bounds-area-s
bounds-area-s c = search (cycling_target, rules)

pub loop-n-preserved : goal.loop-n-preserved
loop-n-preserved c = search (cycling_falls, rules)

pub returns : goal.returns
returns c = record { cycled = search (cycling_full, rules); running = search (full_running, rules) }
