-- What a C host is given by a call: the numbers of an answer, and beside them every byte of what it lent.
use Rattle.caisson.specs.declared.HostAnswer.{HostAnswer}
use Rattle.model.specs.Answers.{Numbers}
use Rattle.model.specs.Refusals.{NumbersLeft}

abbrev pub told : HostAnswer → Numbers
told answer = record { number = answer.number; place = answer.place; count = answer.count }

abbrev pub told_left : {A : Type 0} → HostAnswer → A → NumbersLeft A
told_left answer lent = record { numbers = told answer; lent = lent }
