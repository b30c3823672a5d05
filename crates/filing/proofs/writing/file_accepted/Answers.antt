use Rattle.filing.proofs.WritingRules.{area_refuses, area_passes}
use borrow.Author.Rules.{rules}
use Rattle.filing.proofs.writing.file_accepted.Goals as goal

pub returns-then-out-image : goal.returns-then-out-image
returns-then-out-image c = search (area_refuses c.args.image.now, area_passes c.args.image.now, rules)

pub returns : goal.returns
returns c = search (area_refuses c.args.image.now, area_passes c.args.image.now, rules)
