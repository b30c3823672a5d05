use Rattle.design.proofs.BoundRules.{scopes_short}
use Rattle.machine.proofs.BodyRules.{parameters_kept_lem}
use Rattle.machine.proofs.TableRules.{states_kept, fresh_room, scopes_same, scopes_fresh}
use borrow.Author.Rules.{rules}
use Rattle.machine.proofs.tables.fill_scopes.Goals as goal

pub returns-then-not-has_parameters : goal.returns-then-not-has_parameters
returns-then-not-has_parameters c = (search (scopes_same, rules), search (scopes_fresh, rules))

pub scopes-requires : goal.scopes-requires
scopes-requires c = (search (states_kept, rules), search (scopes_short, parameters_kept_lem, rules), search (fresh_room, rules))
