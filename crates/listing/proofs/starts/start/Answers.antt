use Rattle.listing.proofs.StartRules.{start_kept, start_at}
use borrow.Author.Rules.{rules}
use Rattle.listing.proofs.starts.start.Goals as goal

pub reset-requires : goal.reset-requires
reset-requires c = (search (start_kept, rules), search rules, search rules)

pub returns : goal.returns
returns c = (search rules, search rules, search rules, search (start_at, rules))
