use Rattle.filing.proofs.ComparingRules.{forms_begin, second_lower, first_lower, forms_next, forms_end}
use native.Mathlib.Omega.{arith}
use borrow.Author.Rules.{rules}
use Rattle.filing.proofs.comparing.second_before.Goals as goal

pub loop-i-init : goal.loop-i-init
loop-i-init c = search (forms_begin, rules)

pub returns-then-other-one : goal.returns-then-other-one
returns-then-other-one c = second_lower c.loop-i.invariant (omega arith) (omega arith) c.form_byte-one.ensures c.form_byte-other.ensures c.if-other-one.true

pub returns-then-one-other : goal.returns-then-one-other
returns-then-one-other c = first_lower c.loop-i.invariant (omega arith) (omega arith) c.form_byte-one.ensures c.form_byte-other.ensures c.if-one-other.true

pub loop-i-preserved : goal.loop-i-preserved
loop-i-preserved c = forms_next c.loop-i.invariant (omega arith) (omega arith) c.form_byte-one.ensures c.form_byte-other.ensures c.if-other-one.false c.if-one-other.false

pub returns : goal.returns
returns c = forms_end c.loop-i.invariant (λ l k. omega arith)
