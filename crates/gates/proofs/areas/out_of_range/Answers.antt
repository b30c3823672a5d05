use Prim.Native.Nat.{ℕ}
use mathlib.Core.Path.{◌∙◌, ap}
use Rattle.gates_model.specs.Calls.{lent_kept}
use Rattle.gates.specs.Tables.{table_in}
use Rattle.gates.proofs.Laws.{first_gate_count}
use Rattle.model.proofs.Laws.Chains.{failing_from_find}
use borrow.Author.Rules.{rules}
use borrow.Author.Tests.{tests}
use Rattle.gates.proofs.areas.out_of_range.Goals as goal

pub returns : goal.returns
returns c =
    failing_from_find _ (lent_kept (table_in c.args.table.now) c.args.inputs.now c.args.area.now) c.find.ensures.ran (λ x b q k. search (rules, tests)) (ap (λ (n : ℕ). record { start = 0; end = n }) (c.first_gate.ensures ∙ first_gate_count c.args.table.now.describes))
