use Rattle.checker.specs.Stages.{from_children}
use Rattle.checker.proofs.StageRules.{last_stage}
use borrow.Author.Rules.{rules}
use Rattle.checker.proofs.from_children.Goals as goal

pub returns : goal.returns
unfolding from_children
returns c = search (last_stage, rules)
