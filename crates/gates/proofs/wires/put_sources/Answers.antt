use borrow.Author.Rules.{rules}
use Rattle.gates.proofs.WireRules.{source_carried, source_beyond, sources_carried, sources_known}
use Rattle.gates.proofs.wires.put_sources.Goals as goal

pub loop-w-preserved : goal.loop-w-preserved
loop-w-preserved c = (search (source_carried, rules), search (source_beyond, rules), search rules, search rules)

pub returns : goal.returns
returns c = (search (sources_known, rules), search (sources_carried, rules))
