use Rattle.pruning.proofs.WritingRules.{commands_room, commands_put}
use borrow.Author.Rules.{rules}
use Rattle.pruning.proofs.writing.write_to_expressions.Goals as goal

pub write_commands-requires : goal.write_commands-requires
write_commands-requires c = (search rules, search rules, search rules, search rules, search rules, search (commands_room, rules))

pub returns : goal.returns
returns c = search (commands_put, rules)
