use Rattle.filing_steps.proofs.ByteRules.{low_byte, high_byte}
use borrow.Author.Rules.{rules}
use Rattle.filing_steps.proofs.bytes.field_byte.Goals as goal

pub returns-then-o-eq0 : goal.returns-then-o-eq0
returns-then-o-eq0 c = search (low_byte, rules)

pub returns : goal.returns
returns c = search (high_byte, rules)
