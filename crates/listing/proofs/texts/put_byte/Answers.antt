use Rattle.listing.proofs.TextRules.{put_one}
use borrow.Author.Rules.{rules}
use Rattle.listing.proofs.texts.put_byte.Goals as goal

pub returns : goal.returns
returns c = search (put_one, rules)
