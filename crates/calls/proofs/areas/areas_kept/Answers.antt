use Rattle.calls.proofs.CallRules.{both_kept}
use borrow.Author.Rules.{rules}
use Rattle.calls.proofs.areas.areas_kept.Goals as goal

pub returns : goal.returns
returns c = search (both_kept, rules)
