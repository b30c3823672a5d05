use Rattle.filing_steps.proofs.ByteRules.{body_inside, body_new, body_fits}
use borrow.Author.Rules.{rules}
use Rattle.filing_steps.proofs.bytes.new_body.Goals as goal

pub new_number-requires : goal.new_number-requires
new_number-requires c = search (body_inside, rules)

pub returns : goal.returns
returns c = search (body_new, body_fits, rules)
