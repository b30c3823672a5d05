use Rattle.checker_flow.proofs.MaskRules.{label_of_register, label_of_parameter}
use borrow.Author.Rules.{rules}
use Rattle.checker_flow.proofs.flow.label_of.Goals as goal

pub returns-then-r-lt-PARAMETER_REGISTER : goal.returns-then-r-lt-PARAMETER_REGISTER
returns-then-r-lt-PARAMETER_REGISTER c = search (label_of_register, rules)

pub returns : goal.returns
returns c = search (label_of_parameter, rules)
