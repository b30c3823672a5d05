use borrow.Author.Rules.{rules}
use Rattle.checker_flow.proofs.FlowRules.{told_laws}
use Rattle.checker_flow.proofs.flow.answer.Goals as goal

pub returns-then-image-place : goal.returns-then-image-place
returns-then-image-place c = search (told_laws, rules)

pub returns-in-1 : goal.returns-in-1
returns-in-1 c = search (told_laws, rules)

pub returns-in-4 : goal.returns-in-4
returns-in-4 c = search (told_laws, rules)

pub returns-in_default : goal.returns-in_default
returns-in_default c = search (told_laws, rules)
