use Rattle.pruning.proofs.WritingRules.{result_near, directory_room, front_room, front_put}
use borrow.Author.Rules.{rules}
use Rattle.pruning.proofs.writing.write_front.Goals as goal

pub put_result-requires : goal.put_result-requires
put_result-requires c = (search (result_near, rules), search (directory_room, rules))

pub put_kept-requires : goal.put_kept-requires
put_kept-requires c = (search rules, search rules, search (front_room, rules))

pub returns : goal.returns
returns c = search (front_put, rules)
