use Rattle.pruning.proofs.WritingRules.{expressions_room, expressions_put}
use borrow.Author.Rules.{rules}
use Rattle.pruning.proofs.writing.write.Goals as goal

pub write_expressions-requires : goal.write_expressions-requires
write_expressions-requires c = (search rules, search rules, search rules, search (expressions_room, rules))

pub returns : goal.returns
returns c = search (expressions_put, rules)
