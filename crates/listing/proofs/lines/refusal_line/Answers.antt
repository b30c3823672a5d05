use Rattle.listing.proofs.LineRules.{refusal_put}
use borrow.Author.Rules.{rules}
use Rattle.listing.proofs.lines.refusal_line.Goals as goal

pub returns : goal.returns
returns c = record { put = search (refusal_put, rules); upper_bound = search rules }
