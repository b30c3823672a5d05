use native.Mathlib.Omega.{arith}
use Rattle.design.proofs.Laws.{labels_most}
use Rattle.checker_flow.proofs.TableRules.{rows_inside, rows_more, rows_all}
use borrow.Author.Rules.{rules}
use Rattle.checker_flow.proofs.masks.put_rows.Goals as goal

pub bounds-masks-l : goal.bounds-masks-l
bounds-masks-l c = search (rows_inside, rules)

pub loop-l-preserved : goal.loop-l-preserved
loop-l-preserved c = search (rows_more, rules)

pub returns : goal.returns
returns c = search (rows_all, rules)

pub offset_bounds-masks-l : goal.offset_bounds-masks-l
offset_bounds-masks-l c =
    let below = c.loop-l-test.true in
    let most = labels_most c.requires.0.describes in
    record { fits = omega arith }
