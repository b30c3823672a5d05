use Rattle.listing.proofs.TextRules.{first_item, next_item}
use borrow.Author.Rules.{rules}
use Rattle.listing.proofs.fields.put_item.Goals as goal

pub returns-then-i-eq0 : goal.returns-then-i-eq0
returns-then-i-eq0 c = record { put = search (first_item, rules); upper_bound = search rules }

pub returns : goal.returns
returns c = record { put = search (next_item, rules); upper_bound = search rules }
