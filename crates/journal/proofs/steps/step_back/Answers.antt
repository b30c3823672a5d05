use Rattle.design.proofs.Laws.{registers_most}
use Rattle.design.proofs.ResetRules.{states_few}
use Rattle.calls.proofs.CallRules.{registers_long, targets_long, wrong_lengths}
use Rattle.journal.proofs.StageRules.{step_refuses}
use borrow.Author.Rules.{rules}
use Rattle.journal.proofs.steps.step_back.Goals as goal

pub areas_kept-requires : goal.areas_kept-requires
areas_kept-requires c = (search (registers_most, rules), search (states_few, rules))

pub returns-then-not-areas_kept : goal.returns-then-not-areas_kept
returns-then-not-areas_kept c = search (step_refuses, wrong_lengths, rules)

pub step_on-requires : goal.step_on-requires
step_on-requires c = (rw c.read-image.ensures (search rules), search (registers_long, rules), search (targets_long, rules))
