use Rattle.checker_records.proofs.ParameterRules.{scope_label_laws}
use Rattle.design.proofs.Laws.{state_inside}
use borrow.Author.Rules.{rules}
use Rattle.checker_records.proofs.parameters.label_in_scope.Goals as goal

pub returns-then-label-lt-PARAMETER_LABEL : goal.returns-then-label-lt-PARAMETER_LABEL
returns-then-label-lt-PARAMETER_LABEL c = search (scope_label_laws, state_inside, rules)

pub returns : goal.returns
returns c = search (scope_label_laws, state_inside, rules)
