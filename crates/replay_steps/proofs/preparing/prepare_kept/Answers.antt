use Rattle.design.proofs.Laws.{registers_most}
use Rattle.design.proofs.ResetRules.{states_few}
use Rattle.calls.proofs.CallRules.{registers_long, targets_long, wrong_lengths}
use Rattle.replay_steps.proofs.PreparingRules.{lengths_refused}
use borrow.Author.Rules.{rules}
use Rattle.replay_steps.proofs.preparing.prepare_kept.Goals as goal

pub areas_kept-requires : goal.areas_kept-requires
areas_kept-requires c = (search (registers_most, rules), search (states_few, rules))

pub returns-then-not-areas_kept : goal.returns-then-not-areas_kept
returns-then-not-areas_kept c = rw (← c.read-image.ensures) (search (lengths_refused, wrong_lengths, rules))

pub prepare_on-requires : goal.prepare_on-requires
prepare_on-requires c = (rw c.read-image.ensures (search rules), search (registers_long, rules), search (targets_long, rules))
