use Rattle.checker_scopes.proofs.PlainRules.{plain_state_rule}
use borrow.Author.Rules.{rules}
use Rattle.checker_scopes.proofs.plain.plain_state.Goals as goal

pub returns : goal.returns
returns c = search (plain_state_rule, rules)
