use Rattle.raising.proofs.StageRules.{structured_directory, parameters_refuse, parameters_pass}
use Rattle.design.proofs.ScopeRules.{no_parameters}
use borrow.Author.Rules.{rules}
use Rattle.raising.proofs.raise_structured.Goals as goal

pub read-image-requires : goal.read-image-requires
read-image-requires c = search (structured_directory, rules)

pub returns-then-has_parameters : goal.returns-then-has_parameters
returns-then-has_parameters c = search (parameters_refuse, rules)

pub raise_plain-requires : goal.raise_plain-requires
raise_plain-requires c = rw c.read-image.ensures (search rules, let none = c.has_parameters.ensures in search (no_parameters, rules))

pub returns : goal.returns
returns c = search (parameters_pass, rules)
