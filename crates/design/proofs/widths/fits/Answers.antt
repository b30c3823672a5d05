use Rattle.design.proofs.ShiftRules.{shifted_out}
use borrow.Author.Rules.{rules}
use Rattle.design.proofs.widths.fits.Goals as goal

pub returns : goal.returns
returns c = search (shifted_out, rules)
