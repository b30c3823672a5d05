use Rattle.design.proofs.Laws.{commands_most, expressions_most}
use Rattle.filing.proofs.TableRules.{commands_small, expressions_small, commands_reached, expressions_reached, commands_below_most, expressions_below_most, form_tables, form_filled}
use borrow.Author.Rules.{rules}
use Rattle.filing.proofs.tables.fill.Goals as goal

pub order_commands-requires : goal.order_commands-requires
order_commands-requires c = search (commands_most, rules)

pub number-requires : goal.number-requires
number-requires c = (search (commands_reached, rules), search (commands_small, rules), search (commands_below_most, rules))

pub order_expressions-requires : goal.order_expressions-requires
order_expressions-requires c = (search rules, search rules, search (expressions_most, rules))

pub number-requires-2 : goal.number-requires-2
number-requires-2 c = (search (expressions_reached, rules), search (expressions_small, rules), search (expressions_below_most, rules))

pub returns : goal.returns
returns c = (search (form_filled, rules), search (form_tables, rules))
