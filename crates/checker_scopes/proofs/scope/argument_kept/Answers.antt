use Rattle.checker_scopes.proofs.ArgumentRules.{argument_rules}
use borrow.Author.Rules.{rules}
use Rattle.checker_scopes.proofs.scope.argument_kept.Goals as goal

pub returns-then-not-is_argument : goal.returns-then-not-is_argument
returns-then-not-is_argument c = search (argument_rules, rules)

pub span-least-requires : goal.span-least-requires
span-least-requires c = search (argument_rules, rules)

pub flows-requires : goal.flows-requires
flows-requires c = search (argument_rules, rules)

pub flows-requires-2 : goal.flows-requires-2
flows-requires-2 c = search (argument_rules, rules)

pub returns : goal.returns
returns c = search (argument_rules, rules)
