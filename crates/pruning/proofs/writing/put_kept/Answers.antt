use Rattle.pruning.proofs.WritingRules.{kept_put}
use borrow.Author.Rules.{rules}
use Rattle.pruning.proofs.writing.put_kept.Goals as goal

pub returns : goal.returns
returns c = search (kept_put c.args.image.now c.type_inv.image, rules)
