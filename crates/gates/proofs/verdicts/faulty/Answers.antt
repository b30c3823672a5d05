use Prim.Native.Nat.{ℕ}
use mathlib.Core.Path.{◌∙◌, ap}
use Rattle.gates_model.specs.Tables.{table_of}
use Rattle.gates_model.specs.Verdict.{wire_kept}
use Rattle.gates.proofs.Laws.{wires_count}
use Rattle.model.proofs.Laws.Chains.{failing_from_find}
use borrow.Author.Rules.{rules}
use borrow.Author.Tests.{tests}
use Rattle.gates.proofs.verdicts.faulty.Goals as goal

pub returns : goal.returns
returns c =
    failing_from_find _ (wire_kept (table_of c.args.table.now.bytes.now)) c.find.ensures.ran (λ x b q k. search (rules, tests)) (ap (λ (n : ℕ). record { start = 0; end = n }) (c.wires.ensures ∙ wires_count c.args.table.now.describes))
