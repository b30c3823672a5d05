use Rattle.listing.proofs.TextRules.{put_then}
use borrow.Author.Rules.{rules}
use Rattle.listing.proofs.fields.walk_field.Goals as goal

pub returns : goal.returns
returns c = record { put = search (put_then, rules); upper_bound = search rules }
