use Rattle.checker_records.proofs.ParameterRules.{short_kept, not_entered, entered}
use borrow.Author.Rules.{rules}
use Rattle.checker_records.proofs.parameters.enter.Goals as goal

pub put_scope-requires : goal.put_scope-requires
put_scope-requires c = search (short_kept, not_entered, entered, rules)
