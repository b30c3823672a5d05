use Rattle.machine.proofs.BodyRules.{body_packable, body_performing, body_rule, body_tells}
use borrow.Author.Rules.{rules}
use Rattle.machine.proofs.cycle.body.Goals as goal

pub bound_to-bound-requires : goal.bound_to-bound-requires
bound_to-bound-requires c = search (body_packable, rules)

pub execute-requires : goal.execute-requires
execute-requires c = search (body_performing, rules)

pub returns : goal.returns
returns c = record { result_after = (search (body_rule, rules), search rules); ends = search (body_tells, rules) }
