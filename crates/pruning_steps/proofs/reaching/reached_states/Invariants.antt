use Rattle.model.specs.Image.{design_of}
use Rattle.design.specs.Resets.{Defaults}
use Rattle.pruning_steps.proofs.ReachingRules.{Reaching, undone}
use Rattle.pruning_steps.proofs.reaching.reached_states.Given as goal

abbrev pub invariant-loop-s : goal.invariant-loop-s
invariant-loop-s l = Reaching (design_of l.image.bytes.now) l.marks × Defaults (design_of l.image.bytes.now) l.defaults

abbrev pub decreases-loop-s : goal.decreases-loop-s
decreases-loop-s l = undone l.marks l.image.design.states
