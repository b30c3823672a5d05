use Rattle.journal_saving.proofs.SavingRules.{SavedSo}
use Rattle.journal_saving.proofs.saving.saved_cycles.Given as goal

abbrev pub invariant-loop-i : goal.invariant-loop-i
invariant-loop-i l = SavedSo l.image.bytes.now l.image.design l.defaults l.scopes l.count l.initial.registers l.initial.targets l.initial.journal l.place l.i l.registers l.targets l.journal l.at
