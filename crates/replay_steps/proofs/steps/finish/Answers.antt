use Rattle.model.specs.Image.{AreBytes}
use Rattle.running.proofs.RunningRules.{are_bytes}
use Rattle.replay_steps.proofs.StepRules.{finish_laws}
use borrow.Author.Rules.{rules}
use Rattle.replay_steps.proofs.steps.finish.Goals as goal

pub overflow_sub-prepared : goal.overflow_sub-prepared
overflow_sub-prepared c = let was = c.in_ok-superseded.was in search (finish_laws, rules)

pub run-requires : goal.run-requires
run-requires c = let was = c.in_ok-superseded.was in search (finish_laws, rules)

pub returns-in_err-superseded : goal.returns-in_err-superseded
returns-in_err-superseded c = let was = c.in_err-superseded.was in search (finish_laws, rules)

pub returns : goal.returns
returns c =
    let was = c.in_ok-superseded.was in
    let registers = c.run.new.registers in
    let bytes : AreBytes registers = are_bytes registers c.type_inv.registers in
    search (finish_laws, rules)
