use Rattle.journal_saving.proofs.SavingRules.{saved_both}
use borrow.Author.Rules.{rules}
use Rattle.journal_saving.proofs.saving.save.Goals as goal

pub returns : goal.returns
returns c = search (saved_both, rules)
