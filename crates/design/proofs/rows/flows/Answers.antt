use Rattle.design.proofs.RowRules.{label_bit, row_flows}
use borrow.Author.Rules.{rules}
use Rattle.design.proofs.rows.flows.Goals as goal

pub bit-requires : goal.bit-requires
bit-requires c = search (label_bit, rules)

pub returns : goal.returns
returns c = search (row_flows, rules)
