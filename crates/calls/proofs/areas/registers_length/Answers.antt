use Rattle.calls.proofs.CallRules.{area_fits, registers_bytes}
use borrow.Author.Rules.{rules}
use Rattle.calls.proofs.areas.registers_length.Goals as goal

pub overflow_mul-result : goal.overflow_mul-result
overflow_mul-result c = search (area_fits, rules)

pub returns : goal.returns
returns c = rw (← c.read-image.ensures) (search (registers_bytes, rules))
