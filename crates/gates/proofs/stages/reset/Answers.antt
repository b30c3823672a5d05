use Rattle.gates.proofs.StageRules.{reset_refuses, reset_makes}
use borrow.Author.Rules.{rules}
use Rattle.gates.proofs.stages.reset.Goals as goal

pub returns-then-not-area_kept : goal.returns-then-not-area_kept
returns-then-not-area_kept c = search (reset_refuses, rules)

pub returns : goal.returns
returns c = search (reset_makes, rules)
