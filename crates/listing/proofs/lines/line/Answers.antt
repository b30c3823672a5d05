use Rattle.listing.proofs.LineRules.{line_put}
use borrow.Author.Rules.{rules}
use Rattle.listing.proofs.lines.line.Goals as goal

pub returns : goal.returns
returns c = record { put = search (line_put, rules); upper_bound = search rules }
