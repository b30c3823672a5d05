use Rattle.journal.proofs.StageRules.{count_small, count_refuses}
use borrow.Author.Rules.{rules}
use Rattle.journal.proofs.runs.run_sound.Goals as goal

pub returns-then-not-count_kept : goal.returns-then-not-count_kept
returns-then-not-count_kept c = search (count_refuses, rules)

pub run_counted-requires : goal.run_counted-requires
run_counted-requires c = (search (count_small, rules), search rules)
