use Rattle.design.proofs.Laws.{registers_most}
use Rattle.design.proofs.ResetRules.{states_few}
use Rattle.machine.proofs.TableRules.{states_kept}
use Rattle.calls.proofs.CallRules.{registers_long, targets_long, wrong_lengths, right_lengths, reset_refuses, reset_makes}
use borrow.Author.Rules.{rules}
use Rattle.calls.proofs.resets.reset.Goals as goal

pub areas_kept-requires : goal.areas_kept-requires
areas_kept-requires c = (search (registers_most, rules), search (states_few, rules))

pub returns-then-not-areas_kept : goal.returns-then-not-areas_kept
returns-then-not-areas_kept c = search (reset_refuses, wrong_lengths, rules)

pub reset-requires : goal.reset-requires
reset-requires c = (rw c.read-image.ensures (search (states_kept, rules)), search (registers_long, rules), search (targets_long, rules))

pub returns : goal.returns
returns c = rw (← c.read-image.ensures) (search (reset_makes, right_lengths, registers_long, targets_long, rules))
