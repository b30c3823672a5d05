use Rattle.pruning.proofs.WritingRules.{states_room, states_put}
use borrow.Author.Rules.{rules}
use Rattle.pruning.proofs.writing.write_to_commands.Goals as goal

pub write_states-requires : goal.write_states-requires
write_states-requires c = (search rules, search rules, search rules, search rules, search (states_room, rules))

pub returns : goal.returns
returns c = search (states_put, rules)
