use Rattle.design.proofs.ShiftRules.{width_some}
use Rattle.design.proofs.WidthRules.{width_narrow}
use Rattle.running.proofs.RunningRules.{image_known}
use Rattle.replay_steps.proofs.PreparingRules.{width_shifts, largest_fits, largest_none, largest_rule}
use borrow.Author.Rules.{rules}
use Rattle.replay_steps.proofs.preparing.largest_value.Goals as goal

pub returns-then-register_kind-ne1 : goal.returns-then-register_kind-ne1
returns-then-register_kind-ne1 c = search (largest_none, image_known, rules)

pub overflow_shl-largest : goal.overflow_shl-largest
overflow_shl-largest c = search (width_shifts, width_narrow, image_known, rules)

pub overflow_sub-largest : goal.overflow_sub-largest
overflow_sub-largest c = search (width_some, width_narrow, image_known, rules)

pub overflow_cast-result : goal.overflow_cast-result
overflow_cast-result c = search (largest_fits, width_narrow, image_known, rules)

pub returns : goal.returns
returns c = search (largest_rule, width_narrow, image_known, rules)
