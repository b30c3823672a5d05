use mathlib.Core.Path.{◌∙◌}
use Rattle.pruning_steps.proofs.WritingRules.{states_none, written_room, states_one, states_past, states_whole}
use borrow.Author.Rules.{rules}
use Rattle.pruning_steps.proofs.writing.write_states.Goals as goal
use Rattle.pruning_steps.proofs.writing.write_states.Goals.{then-reached-s-eq1, else-reached-s-eq1}

pub loop-s-init : goal.loop-s-init
loop-s-init c = search (states_none, rules)

pub write_state-requires : goal.write_state-requires
write_state-requires c = search (written_room, rules)

pub loop-s-preserved : goal.loop-s-preserved
loop-s-preserved c =
    elim c.if-reached-s-eq1.branch [
      | then-reached-s-eq1 w ↦ states_one c.args.image.now.bytes.now c.args.image.now.design c.loop-s.invariant w.if-reached-s-eq1.true w.place-is (w.out-is ∙ w.write_state.ensures) c.loop-s-test.true
      | else-reached-s-eq1 w ↦ states_past c.args.image.now.bytes.now c.args.image.now.design c.loop-s.invariant w.if-reached-s-eq1.false w.place-is w.out-is c.loop-s-test.true
    ]

pub returns : goal.returns
returns c = search (states_whole, rules)
