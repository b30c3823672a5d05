use Rattle.model.specs.Image.{design_of}
use Rattle.model.specs.Machine.{target_sound}
use Rattle.design.proofs.Laws.{states_count}
use Rattle.model.proofs.Laws.Chains.{failing_from_find}
use mathlib.Core.Path.{refl}
use borrow.Author.Rules.{rules}
use Rattle.machine.proofs.targets.unsound.Goals as goal

pub returns : goal.returns
returns c = rw (← states_count c.args.image.now.describes) (failing_from_find _ (target_sound (design_of c.args.image.now.bytes.now) c.args.targets.now) c.find.ensures.ran (λ x b q k. search rules) refl)
