use Rattle.checker.proofs.Accepted.{accepted_keeps}
use Rattle.replay_steps.proofs.PreparingRules.{image_refused, image_accepted}
use borrow.Author.Rules.{rules}
use Rattle.replay_steps.proofs.preparing.prepare.Goals as goal

pub prepare_kept-requires : goal.prepare_kept-requires
prepare_kept-requires c = search (accepted_keeps, rules)

pub returns-in-Err : goal.returns-in-Err
returns-in-Err c = search (image_refused, rules)

pub returns-in-Ok : goal.returns-in-Ok
returns-in-Ok c = search (image_accepted, rules)
