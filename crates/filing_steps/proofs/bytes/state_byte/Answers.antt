use Rattle.filing_steps.proofs.ByteRules.{state_body, state_other}
use borrow.Author.Rules.{rules}
use Rattle.filing_steps.proofs.bytes.state_byte.Goals as goal

pub returns-then-o-eq1 : goal.returns-then-o-eq1
returns-then-o-eq1 c = search (state_body, rules)

pub returns : goal.returns
returns c = search (state_other, rules)
