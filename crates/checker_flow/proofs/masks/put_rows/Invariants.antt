use Rattle.model.specs.Image.{design_of}
use Rattle.checker_flow.proofs.TableRules.{RowsSo}
use Rattle.checker_flow.proofs.masks.put_rows.Given as goal

abbrev pub invariant-loop-l : goal.invariant-loop-l
invariant-loop-l l = RowsSo (design_of l.image.bytes.now) l.first l.second l.l l.initial.masks l.masks
