use Rattle.checker_flow.proofs.TableRules.{rows_kept}
use Rattle.raising.proofs.StateRules.{times_none, times_more, times_still, times_all, most_passes, labelling_to}
use Rattle.design.proofs.Laws.{labels_most, registers_most}
use borrow.Author.Rules.{rules}
use Rattle.raising.proofs.passes.raise_labels.Goals as goal

pub loop-passes-init : goal.loop-passes-init
loop-passes-init c = (search (times_none, rules), search (rows_kept, rules))

pub returns-then-not-raise_once : goal.returns-then-not-raise_once
returns-then-not-raise_once c = (search (times_still, most_passes, rules), search (labelling_to, rules))

pub loop-passes-preserved : goal.loop-passes-preserved
loop-passes-preserved c = (search (times_more, rules), search rules)

pub returns : goal.returns
returns c = (search (times_all, most_passes, rules), search rules)

pub overflow_mul-most : goal.overflow_mul-most
overflow_mul-most c =
    let registers = registers_most c.args.image.now.describes in
    let labels = labels_most c.args.image.now.describes in
    search rules
