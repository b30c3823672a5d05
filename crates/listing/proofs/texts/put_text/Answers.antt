use Rattle.listing.proofs.TextRules.{put_copied}
use borrow.Author.Rules.{rules}
use Rattle.listing.proofs.texts.put_text.Goals as goal

pub returns : goal.returns
returns c = search (put_copied, rules)
