use Rattle.design.proofs.Laws.{registers_most}
use Rattle.design.proofs.ResetRules.{states_few}
use Rattle.calls.proofs.CallRules.{wrong_lengths}
use Rattle.journal.proofs.StageRules.{run_refuses}
use borrow.Author.Rules.{rules}
use Rattle.journal.proofs.runs.run_journalled.Goals as goal

pub areas_kept-requires : goal.areas_kept-requires
areas_kept-requires c = (search (registers_most, rules), search (states_few, rules))

pub returns-then-not-areas_kept : goal.returns-then-not-areas_kept
returns-then-not-areas_kept c = search (run_refuses, wrong_lengths, rules)
