use Rattle.filing_steps.proofs.ByteRules.{form_front}
use borrow.Author.Rules.{rules}
use Rattle.filing_steps.proofs.bytes.front_byte.Goals as goal

pub returns : goal.returns
returns c = search (form_front c.args.image.now c.type_inv.image, rules)
