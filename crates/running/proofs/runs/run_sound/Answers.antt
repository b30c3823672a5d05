use Rattle.model.specs.Image.{AreBytes}
use Rattle.running.proofs.RunningRules.{count_refuses, run_makes, are_bytes, bytes_left}
use borrow.Author.Rules.{rules}
use Rattle.running.proofs.runs.run_sound.Goals as goal

pub returns-then-not-count_kept : goal.returns-then-not-count_kept
returns-then-not-count_kept c = search (count_refuses, rules)

pub returns : goal.returns
returns c =
    let registers = c.cycles.new.registers in
    let bytes : AreBytes registers = are_bytes registers c.type_inv.registers in
    search (run_makes, bytes_left, rules)
