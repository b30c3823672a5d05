use Rattle.design.proofs.Laws.{registers_most}
use Rattle.design.proofs.LabelRules.{own_labels_kept}
use Rattle.design.proofs.ScopeRules.{no_parameters}
use Rattle.checker.proofs.OwnLabels.{own_flow}
use borrow.Author.Rules.{rules}
use Rattle.checker.proofs.flow.flow_faults.Goals as goal

pub register_labels-requires : goal.register_labels-requires
register_labels-requires c = search (registers_most, rules)

pub declared_faults-requires : goal.declared_faults-requires
declared_faults-requires c = (search rules, search rules, search (own_labels_kept, registers_most, rules), search rules)

pub returns-then-has_parameters : goal.returns-then-has_parameters
returns-then-has_parameters c = search (own_flow, rules)

pub plain_faults-requires : goal.plain_faults-requires
plain_faults-requires c = (search rules, search rules, search (no_parameters, rules), search (own_labels_kept, registers_most, rules), search rules)

pub returns : goal.returns
returns c = search (own_flow, rules)
