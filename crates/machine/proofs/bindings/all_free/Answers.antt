use Rattle.model.specs.Image.{design_of}
use Rattle.machine.specs.Bindings.{is_free}
use Rattle.design.proofs.Laws.{states_count}
use Rattle.model.proofs.Laws.Chains.{all_from_all}
use mathlib.Core.Path.{refl}
use borrow.Author.Rules.{rules}
use Rattle.machine.proofs.bindings.all_free.Goals as goal

pub returns : goal.returns
returns c = rw (← states_count c.args.image.now.describes) (all_from_all _ (is_free (design_of c.args.image.now.bytes.now) c.args.area.now) c.all.ensures.ran (λ x b q k. search rules) refl)
