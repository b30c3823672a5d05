use borrow.Author.Rules.{rules}
use Rattle.gates.proofs.NandRules.{nand_decided, nand_undecided}
use Rattle.gates.proofs.wires.nand.Goals as goal

pub returns-then-a-b : goal.returns-then-a-b
returns-then-a-b c = search (nand_decided, rules)

pub returns : goal.returns
returns c = search (nand_undecided, rules)
