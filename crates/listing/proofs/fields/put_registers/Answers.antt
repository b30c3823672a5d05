use Rattle.listing.proofs.TextRules.{field_begins, field_short, registers_more, registers_done}
use borrow.Author.Rules.{rules}
use Rattle.listing.proofs.fields.put_registers.Goals as goal

pub loop-i-init : goal.loop-i-init
loop-i-init c = search (field_begins, rules)

pub loop-i-preserved : goal.loop-i-preserved
loop-i-preserved c = search (registers_more, rules)

pub returns : goal.returns
returns c = record { put = search (registers_done, rules); upper_bound = search (field_short, rules) }
