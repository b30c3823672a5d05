use Rattle.calls.proofs.CallRules.{targets_fit, targets_bytes}
use borrow.Author.Rules.{rules}
use Rattle.calls.proofs.areas.targets_length.Goals as goal

pub overflow_mul-result : goal.overflow_mul-result
overflow_mul-result c = search (targets_fit, rules)

pub returns : goal.returns
returns c = rw (← c.read-image.ensures) (search (targets_bytes, rules))
