use Rattle.replay_steps.specs.Judging.{port_at}
use borrow.Author.Rules.{rules}
use Rattle.replay_steps.proofs.judging.judge_port.Goals as goal

pub returns-then-r-ge-REGISTERS : goal.returns-then-r-ge-REGISTERS
unfolding port_at
returns-then-r-ge-REGISTERS c = search rules

pub returns-then-largest-eq0 : goal.returns-then-largest-eq0
unfolding port_at
returns-then-largest-eq0 c = search rules

pub returns-then-largest-value : goal.returns-then-largest-value
unfolding port_at
returns-then-largest-value c = search rules

pub returns : goal.returns
unfolding port_at
returns c = search rules
