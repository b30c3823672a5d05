use Rattle.machine.proofs.TargetRules.{sound_alone, sound_child}
use Rattle.design.proofs.ResetRules.{entry_inside}
use borrow.Author.Rules.{rules}
use Rattle.machine.proofs.targets.sound.Goals as goal

pub bounds-defaults-s : goal.bounds-defaults-s
bounds-defaults-s c = search (entry_inside, rules)

pub returns-then-from-s : goal.returns-then-from-s
returns-then-from-s c = search (sound_alone, rules)

pub returns : goal.returns
returns c = search (sound_child, rules)
