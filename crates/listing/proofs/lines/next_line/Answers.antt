use Rattle.listing.proofs.LineRules.{at_running, at_states, at_registers, walk_within, walk_few, line_listed, ran_more}
use borrow.Author.Rules.{rules}
use Rattle.listing.proofs.lines.next_line.Goals as goal

pub cycle-states-requires : goal.cycle-states-requires
cycle-states-requires c = (search (at_running, rules), search (at_states, rules))

pub line-requires : goal.line-requires
line-requires c = (search rules, search (walk_within, rules), search (walk_few, rules), search rules, search (at_registers, rules))

pub returns : goal.returns
returns c = record { put = search (line_listed, rules); running_at = search (ran_more, rules); upper_bound = search rules }
