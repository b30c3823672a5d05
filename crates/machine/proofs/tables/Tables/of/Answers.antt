use Rattle.design.proofs.ResetRules.{states_few, fresh_defaults}
use Rattle.machine.proofs.TableRules.{states_kept, scopes_whole}
use borrow.Author.Rules.{rules}
use Rattle.machine.proofs.tables.Tables.of.Goals as goal

pub default_targets-requires : goal.default_targets-requires
default_targets-requires c = (search (states_kept, rules), search (states_few, rules))

pub returns : goal.returns
returns c = (search rules, search (scopes_whole, rules), (search (fresh_defaults, rules), search rules))
