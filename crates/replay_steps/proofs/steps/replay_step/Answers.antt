use Rattle.replay_steps.proofs.StepRules.{step_laws}
use borrow.Author.Rules.{rules}
use Rattle.replay_steps.proofs.steps.replay_step.Goals as goal

pub put_word-requires : goal.put_word-requires
put_word-requires c = search (step_laws, rules)

pub returns : goal.returns
returns c = search (step_laws, rules)
