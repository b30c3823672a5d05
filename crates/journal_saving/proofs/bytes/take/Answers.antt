use Rattle.journal_saving.proofs.ByteRules.{put_whole}
use borrow.Author.Rules.{rules}
use Rattle.journal_saving.proofs.bytes.take.Goals as goal

pub returns : goal.returns
returns c = search (put_whole, rules)
